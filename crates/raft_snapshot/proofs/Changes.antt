-- A change leads from one stored part to another.
use Rattle.std.proofs.Common.{◌≡◌, ◌∙◌, ℕ, ◌≤◌, List, ◌++◌, Some, None, Bool, true, cond, leb, eqb, ◌&&◌, length, take, drop, ap, sym, refl, arith, take-take}
use Rattle.std.proofs.lemmas.Bool.{le-leb, eq-eqb}
use Rattle.std.proofs.lemmas.List.{take-append-drop}
use Rattle.machine_model.specs.declared.entry.Entry.{Entry}
use Rattle.raft_model.specs.Logs.{term_at}
use Rattle.raft_snapshot.specs.Bases.{Base}
use Rattle.raft_snapshot.proofs.Logs.{front_term}
use Rattle.raft_snapshot.specs.Kept.{Kept}
use Rattle.raft_snapshot.specs.Stored.{Stored}
use Rattle.raft_snapshot.specs.Changes.{changed_part, log_change, SharesEntries}

module _ {C : Type 0} where
  -- the logs have the same term where both have the same first entries
  same_term : (A B : List (Entry C)) (k : ℕ) → k ≤ length A → k ≤ length B → take k A ≡ take k B → term_at A k ≡ term_at B k
  same_term A B k a b same = sym (front_term A k k a (omega arith)) ∙ ap (λ l. term_at l k) same ∙ front_term B k k b (omega arith)

  shorter : (A B : List (Entry C)) (i k : ℕ) → i ≤ k → take k A ≡ take k B → take i A ≡ take i B
  shorter A B i k le same = sym (take-take i k A le) ∙ ap (take i) same ∙ take-take i k B le

module _ {S C : Type 0} where
  tested : (a b c : Bool) (s : Stored S C) → a ≡ true → b ≡ true → c ≡ true → cond (a && (b && c)) (Some s) None ≡ Some s
  tested a b c s ha hb hc = rw (ha, hb, hc) refl

  with_log : Stored S C → Base S → List (Entry C) → Stored S C
  with_log new base entries = record { term = new.term; vote = new.vote; log = record { base = base; entries = entries } }

  pub change_leads : (old new : Stored S C) (keep : ℕ) → SharesEntries old.log new.log keep → changed_part old (log_change new.term new.vote new.log keep) ≡ Some new
  unfolding with_log
  change_leads old new keep is =
      let entries : take keep old.log.entries ++ drop keep new.log.entries ≡ new.log.entries = ap (λ l. l ++ drop keep new.log.entries) is.same ∙ take-append-drop keep new.log.entries in
      tested (leb old.log.base.index keep) (leb keep (length old.log.entries)) (eqb (term_at old.log.entries keep) (term_at new.log.entries keep))
      (with_log new old.log.base (take keep old.log.entries ++ drop keep new.log.entries))
      (le-leb old.log.base.index keep is.covered) (le-leb keep (length old.log.entries) is.within.0)
      (eq-eqb _ _ (same_term old.log.entries new.log.entries keep is.within.0 is.within.1 is.same))
      ∙ ap (λ l. Some (with_log new old.log.base l)) entries ∙ ap (λ b. Some (with_log new b new.log.entries)) (sym is.base)

  -- two changes one after the other keep what both keep
  pub shares_over : (old mid new : Kept S C) (j k i : ℕ) → SharesEntries old mid j → SharesEntries mid new k → i ≤ j → i ≤ k → old.base.index ≤ i → SharesEntries old new i
  shares_over old mid new j k i one two low high covered = record {
    base = two.base ∙ one.base;
    covered = covered;
    within = (omega (arith, low, one.within.0), omega (arith, high, two.within.1));
    same = shorter old.entries mid.entries i j low one.same ∙ shorter mid.entries new.entries i k high two.same;
  }
