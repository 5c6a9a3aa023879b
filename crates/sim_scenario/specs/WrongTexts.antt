-- What is printed of what is wrong with a text that is no scenario.
use Rattle.std.specs.Prelude.{◌++◌, ◌∷◌, ℕ, List, Option, Some, codes, decimal, option_map, string_bytes}
use Rattle.std.specs.Fmt.{debug_str}
use Rattle.sim_scenario.specs.declared.wrong.TextPosition.{TextPosition}
use Rattle.sim_scenario.specs.declared.wrong.Wrong.{Wrong}
use Rattle.sim_scenario.specs.declared.wrong.Wrong.TheVariants.{NoText, Empty, ByteOrderMark, NoJson, KeyTwice, NoObject, Missing, Misspelt, OtherKey, Wanted, BadNode}

abbrev pub position_text : TextPosition → List ℕ
position_text p = codes "line " ++ (decimal p.line ++ (codes ", column " ++ decimal p.column))

-- a key is shown between quotes; nothing is said of one past ASCII
abbrev pub wrong_text : Wrong → Option (List ℕ)
wrong_text NoText = Some (codes "it is no UTF-8")
wrong_text Empty = Some (codes "it is empty")
wrong_text ByteOrderMark = Some (codes "it begins with a byte order mark")
wrong_text (NoJson place) = Some (codes "it is no JSON, at " ++ position_text place)
wrong_text (KeyTwice key first again) =
    option_map (λ shown. codes "an object in it has the key " ++ (shown ++ (codes " twice, at " ++ (position_text first ++ (codes ", and at " ++ position_text again)))))
    (debug_str (string_bytes key))
wrong_text NoObject = Some (codes "it is no JSON object")
wrong_text (Missing key) = Some (codes "the key \"" ++ (key.now ++ codes "\" is missing"))
wrong_text (Misspelt key other) =
    option_map (λ shown. codes "the key \"" ++ (key.now ++ (codes "\" is missing, and it has a key that no scenario has: " ++ shown)))
    (debug_str (string_bytes other))
wrong_text (OtherKey key) = option_map (λ shown. codes "it has a key that no scenario has: " ++ shown) (debug_str (string_bytes key))
wrong_text (Wanted key what) = Some (34 ∷ key.now ++ (codes "\" has to be " ++ what.now))
wrong_text (BadNode number) =
    Some (codes "node " ++ (decimal number
    ++ codes " has to be an object of exactly the keys \"class\", a name of 1 to 32 of a-z0-9-, \"cpu\" and \"mem\", whole numbers from 1 to 1000000, and \"disk\", one from 0 to 1000000, which may be left out"))
