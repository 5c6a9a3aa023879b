-- What is printed of a scenario with which something is wrong.
use Rattle.std.specs.Prelude.{◌≡◌, ◌⊎◌, ◌++◌, ◌∷◌, ℕ, List, [], Option, IfSome, codes, decimal, option_map, string_bytes}
use Rattle.std.specs.Fmt.{debug_str}
use Rattle.std.specs.Io.KnownBytes.{Appends}
use Rattle.std.specs.Str.{IsUtf8}
use Rattle.sim_scenario.specs.declared.checking.Complaint.{Complaint}
use Rattle.sim_scenario.specs.declared.checking.Complaint.TheVariants as complaints
use Rattle.sim_scenario.specs.Complaints.{AreComplaints}
use Rattle.sim_scenario.specs.FlawTexts.{flaw_text}
use Rattle.sim_scenario.specs.WrongTexts.{wrong_text}

-- the line of a complaint; nothing is said of one that shows a text past ASCII
abbrev pub complaint_line : Complaint → Option (List ℕ)
complaint_line (complaints.Text wrong) = option_map (λ text. text ++ 10 ∷ []) (wrong_text wrong)
complaint_line (complaints.Step number line flaw) =
    option_map (λ shown. codes "step " ++ (decimal number ++ (codes ": " ++ (shown ++ (codes ": " ++ (flaw_text flaw ++ 10 ∷ []))))))
    (debug_str (string_bytes line))

-- the output grows by the line of each complaint in turn
abbrev pub ShowsEach : List Complaint → Option (List ℕ) → Option (List ℕ) → Type 0
ShowsEach [] old new = new ≡ old
ShowsEach (one ∷ others) old new =
    (mid : Option (List ℕ)) × IfSome (complaint_line one) (Appends old mid) × ShowsEach others mid new

-- by what is wrong with a text
abbrev pub ShowsComplaints : List ℕ → Option (List ℕ) → Option (List ℕ) → Type 0
ShowsComplaints text old new = (found : List Complaint) × AreComplaints text found × ShowsEach found old new

-- by what is wrong with a file's bytes: with their text, or that they are none
abbrev pub ShowsFaults : List ℕ → Option (List ℕ) → Option (List ℕ) → Type 0
ShowsFaults bytes old new =
    (IsUtf8 bytes × ShowsComplaints bytes old new)
    ⊎ ((¬ IsUtf8 bytes) × Appends old new (codes "it is no UTF-8\n"))
