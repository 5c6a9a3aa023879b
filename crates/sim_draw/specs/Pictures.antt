-- What a picture is: one element of XML, with a text or an element wherever its tags say so.
use Rattle.std.specs.Prelude.{◌≡◌, ℕ, ◌≤◌, ◌<◌, Bool, true, not, ◌==◌, ◌&&◌, nat_le, if◌then◌else◌, Option, List, [], ◌∷◌, ◌++◌, length, codes, decimal}
use Rattle.std.specs.List.{flat_map, list_all}
use Rattle.std.specs.Io.KnownBytes.{Appends}

-- a byte that begins and ends no tag and no entity
abbrev pub is_plain_byte : ℕ → Bool
is_plain_byte byte = not (byte == 60) && (not (byte == 62) && not (byte == 38))

-- a small letter
abbrev pub is_letter : ℕ → Bool
is_letter byte = nat_le 97 byte && nat_le byte 122

-- it is empty, or a space stands before it
abbrev pub stands_apart : List ℕ → Bool
stands_apart [] = true
stands_apart (byte ∷ _) = byte == 32

-- a byte of a text, as it stands between tags; what cannot be seen, and what is no character of
-- ASCII, is a question mark
abbrev pub shown_byte : ℕ → List ℕ
shown_byte byte = if byte == 60 then codes "&lt;" else
    (if byte == 62 then codes "&gt;" else
    (if byte == 38 then codes "&amp;" else
    (if nat_le 32 byte && nat_le byte 126 then byte ∷ [] else codes "?")))

-- the name and the attributes of an element
pub record IsTag (name attributes : List ℕ) : Type 0 where
  pub letters : list_all is_letter name ≡ true
  pub named : 0 < length name
  pub apart : stands_apart attributes ≡ true
  pub plain : list_all is_plain_byte attributes ≡ true

-- What stands between a tag and its end: lines, texts in which no sign of markup stands, and
-- elements, which are empty or end with their own name.
pub data IsContent : List ℕ → Type 0 where
  line_end : IsContent (codes "\n")
  text : (said : List ℕ) → IsContent (flat_map shown_byte said)
  sign : (name attributes : List ℕ) → IsTag name attributes →
      IsContent (codes "<" ++ (name ++ (attributes ++ codes "/>")))
  element : (name attributes inside : List ℕ) → IsTag name attributes → IsContent inside →
      IsContent (codes "<" ++ (name ++ (attributes ++ (codes ">" ++ (inside ++ (codes "</" ++ (name ++ codes ">")))))))
  both : (front back : List ℕ) → IsContent front → IsContent back → IsContent (front ++ back)

-- the element of a title
abbrev pub title_element : List ℕ → List ℕ
title_element title = codes "\n<title>" ++ (flat_map shown_byte title ++ codes "</title>")

-- the line that begins a file of XML
abbrev pub declaration : List ℕ
declaration = codes "<?xml version=\"1.0\" encoding=\"UTF-8\"?>\n"

-- a picture of this title: one element `svg`, which begins with its title
pub record IsPicture (title text : List ℕ) : Type 0 where
  pub attributes : List ℕ
  pub inside : List ℕ
  pub tag : IsTag (codes "svg") attributes
  pub content : IsContent inside
  pub whole : text ≡ codes "<svg" ++ (attributes ++ (codes ">" ++ (title_element title ++ (inside ++ codes "</svg>\n"))))

-- The title of a run of so many servers, clients and events, in which so many messages were sent,
-- and so many of them never came.
abbrev pub run_title : ℕ → ℕ → ℕ → ℕ → ℕ → List ℕ
run_title servers clients events messages lost =
    (codes "servers " ++ (decimal servers ++ (codes ", clients " ++ decimal clients)))
    ++ (codes ", events " ++ (decimal events ++ (codes ", messages " ++ (decimal messages ++ (codes ", lost " ++ decimal lost)))))

-- A picture whose title counts these servers, clients and events, and of whose messages some may be
-- lost.
pub record IsRunPicture (servers clients events : ℕ) (text : List ℕ) : Type 0 where
  pub messages : ℕ
  pub lost : ℕ
  pub some : lost ≤ messages
  pub picture : IsPicture (run_title servers clients events messages lost) text

-- known bytes stay at the front and grow by the line that begins a file and one such picture
pub record GrowsByPicture (servers clients events : ℕ) (old new : Option (List ℕ)) : Type 0 where
  pub text : List ℕ
  pub picture : IsRunPicture servers clients events text
  pub appended : Appends old new (declaration ++ text)
