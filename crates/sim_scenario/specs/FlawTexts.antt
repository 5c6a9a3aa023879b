-- What is printed of what a line has wrong that is no step's.
use Rattle.std.specs.Prelude.{◌++◌, ◌∷◌, ℕ, List, codes, decimal, string_bytes}
use Rattle.sim_scenario.specs.declared.flaw.Wanted.{Wanted}
use Rattle.sim_scenario.specs.declared.flaw.Wanted.TheVariants.{Number, Unsigned, NoZero, Between, Name, OneOf, With, Once}
use Rattle.sim_scenario.specs.declared.flaw.WrongPart.{WrongPart}
use Rattle.sim_scenario.specs.declared.flaw.Flaw.{Flaw}
use Rattle.sim_scenario.specs.declared.flaw.Flaw.TheVariants as flaws

abbrev pub wanted_text : Wanted → List ℕ
wanted_text Number = codes "is no number"
wanted_text Unsigned = codes "has a sign"
wanted_text NoZero = codes "has a zero in front"
wanted_text (Between low high) = codes "is not from " ++ (decimal low ++ (codes " to " ++ decimal high))
wanted_text Name = codes "is not 1 to 32 of a-z0-9-"
wanted_text (OneOf words) = codes "is not " ++ words.now
wanted_text (With part) = codes "lacks its " ++ part.now
wanted_text Once = codes "stands twice"

-- a part stands between quotes
abbrev pub wrong_part_text : WrongPart → List ℕ
wrong_part_text p = codes "the " ++ (p.name.now ++ (codes " \"" ++ (string_bytes p.text ++ (codes "\" " ++ wanted_text p.wanted))))

abbrev pub flaw_text : Flaw → List ℕ
flaw_text flaws.Empty = codes "it is empty"
flaw_text (flaws.Character column) = codes "no step has the character in column " ++ decimal column
flaw_text (flaws.Space column) = codes "the space in column " ++ (decimal column ++ codes " is one too many")
flaw_text (flaws.NoStep word) = codes "no step begins with \"" ++ (string_bytes word ++ codes "\"; 'nomadsim run --help' has all")
flaw_text (flaws.Meant word verb) =
    codes "no step begins with \"" ++ (string_bytes word ++ (codes "\"; " ++ (verb.now ++ codes " may be meant")))
flaw_text (flaws.Missing name) = codes "the " ++ (name.now ++ codes " is missing")
flaw_text (flaws.TooMuch text) = 34 ∷ string_bytes text ++ codes "\" is too much"
flaw_text (flaws.Absent name number count) =
    codes "there is no " ++ (name.now ++ (32 ∷ string_bytes number ++ (codes " of " ++ decimal count)))
flaw_text (flaws.Word part) = wrong_part_text part
flaw_text (flaws.Within name whole part) =
    codes "in the " ++ (name.now ++ (codes " \"" ++ (string_bytes whole ++ (codes "\" " ++ wrong_part_text part))))
flaw_text (flaws.TooMany names most) =
    codes "there are more than " ++ (decimal most ++ (32 ∷ names.now))
flaw_text flaws.Unknown = codes "it is no step"
