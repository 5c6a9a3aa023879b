-- One more step of a scenario.
use Rattle.std.proofs.Common.{◌≡◌, ◌+◌, ◌<◌, ◌++◌, ◌∷◌, ℕ, List, [], Option, String, get_or, inl, inr, length, map, refl, string_bytes, subst, take}
use Rattle.std.specs.Io.KnownBytes.{Appends}
use Rattle.std.specs.declared.alloc.Global.{Global}
use Rattle.std.proofs.lemmas.List.{append-nil}
use Rattle.rows.specs.declared.refusal.Refusal.{Refusal}
use Rattle.sim_scenario.specs.Steps.{IsLine, Step}
use Rattle.sim_play.specs.Played.{LinesPlayed}
use Rattle.sim_play.proofs.Steps.{one_more_line, one_more_played}
use Rattle.sim_files.specs.Refusals.{refusal_line}
use Rattle.sim_files.specs.Plays.{TellsLines}
use Rattle.sim_files.proofs.Refusals.{one_more_refused}

module _ {S : Type 0} (Takes : Step → S → S → Type 0) (Refuses : Step → S → Refusal → S → Type 0) where
  module _ (steps : List (String Global)) (i : ℕ) (line : String Global) (inside : i < length steps) (at : line ≡ get_or steps i line)
      (step : Step) (named : IsLine step (string_bytes line)) (old mid new : S) (status : ℕ) where
    pub step_taken : (before after : Option (List ℕ)) → Takes step mid new → TellsLines Takes Refuses (map string_bytes (take i steps)) old mid status before after
        → TellsLines Takes Refuses (map string_bytes (take (i + 1) steps)) old new status before after
    step_taken before after takes (refused, played, told) = rw (one_more_line steps i line inside at) (
      refused,
      subst (λ all. LinesPlayed Takes Refuses (map string_bytes (take i steps) ++ string_bytes line ∷ []) old all new) (append-nil refused)
          (one_more_played Takes Refuses _ (string_bytes line) old mid new refused [] played (record { step = step; named = named; became = inl (takes, refl) })),
      told,
    )

    pub step_refused : (refusal : Refusal) (before between after : Option (List ℕ)) → Refuses step mid refusal new
        → TellsLines Takes Refuses (map string_bytes (take i steps)) old mid status before between → Appends between after (refusal_line refusal (string_bytes line))
        → TellsLines Takes Refuses (map string_bytes (take (i + 1) steps)) old new 1 before after
    step_refused refusal before between after refuses (refused, played, told) more =
        rw (one_more_line steps i line inside at) (
          refused ++ (refusal, string_bytes line) ∷ [],
          one_more_played Takes Refuses _ (string_bytes line) old mid new refused ((refusal, string_bytes line) ∷ []) played
              (record { step = step; named = named; became = inr (refusal, refuses, refl) }),
          one_more_refused refused status (refusal, string_bytes line) before between after told more,
        )
