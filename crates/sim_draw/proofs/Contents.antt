-- What is written for a picture's elements is content, and what is written for all of it is a picture.
use Rattle.std.proofs.Common.{◌≡◌, ℕ, ◌<◌, zero, suc, true, false, List, [], ◌∷◌, ◌++◌, length, take, decimal, codes, string_bytes, refl, subst, append_assoc, arith, lit<, ◌==◌, ◌/◌, ◌%◌, if◌then◌else◌}
use Rattle.std.specs.List.{flat_map, list_all}
use Rattle.std.specs.Fmt.{digits, digits_onto, digit_glyph}
use Rattle.std.proofs.lemmas.Nat.{mod_below}
use Rattle.std.proofs.lemmas.List.Folds.{list_all-append}
use Rattle.sim_draw.specs.declared.svg.TheConstants.{ABOUT, HEAD}
use Rattle.sim_draw.specs.declared.layout.Point.{Point}
use Rattle.sim_draw.specs.declared.shape.Shape.{Shape}
use Rattle.sim_draw.specs.declared.shape.Shape.TheVariants.{Line, Bow, Circle, White, Text, Tip}
use Rattle.sim_draw.specs.declared.ink.Ink.{Ink}
use Rattle.sim_draw.specs.declared.ink.Ink.TheVariants as inks
use Rattle.sim_draw.specs.declared.ink.Stroke.{Stroke}
use Rattle.sim_draw.specs.declared.ink.Stroke.TheVariants as strokes
use Rattle.sim_draw.specs.declared.ink.Spot.{Spot}
use Rattle.sim_draw.specs.declared.ink.Spot.TheVariants as spots
use Rattle.sim_draw.specs.declared.ink.Anchor.{Anchor}
use Rattle.sim_draw.specs.declared.ink.Anchor.TheVariants as anchors
use Rattle.sim_draw.specs.declared.ink.Cover.{Cover}
use Rattle.sim_draw.specs.declared.ink.Cover.TheVariants as covers
use Rattle.sim_draw.specs.Pictures.{shown_byte, is_plain_byte, is_letter, stands_apart, IsContent, IsPicture}
use Rattle.sim_draw.specs.Pictures.IsContent.{line_end, text, sign, element, both}
use Rattle.sim_draw.specs.Inner.Shapes.{text_of, line_text, bow_text, circle_text, white_text, words_text, tip_text, stroke_look, spot_look, ink_look, anchor_look, cover_look, most_of, open_text, about_text, sheet_text, svg_text}

-- ---- bytes that are plain

digit_plain : (d : ℕ) → d < 10 → is_plain_byte (digit_glyph false d) ≡ true
digit_plain zero small = refl
digit_plain (suc zero) small = refl
digit_plain (suc (suc zero)) small = refl
digit_plain (suc (suc (suc zero))) small = refl
digit_plain (suc (suc (suc (suc zero)))) small = refl
digit_plain (suc (suc (suc (suc (suc zero))))) small = refl
digit_plain (suc (suc (suc (suc (suc (suc zero)))))) small = refl
digit_plain (suc (suc (suc (suc (suc (suc (suc zero))))))) small = refl
digit_plain (suc (suc (suc (suc (suc (suc (suc (suc zero)))))))) small = refl
digit_plain (suc (suc (suc (suc (suc (suc (suc (suc (suc zero))))))))) small = refl
digit_plain (suc (suc (suc (suc (suc (suc (suc (suc (suc (suc d)))))))))) small = absurd (omega arith)

-- one byte more before plain ones
one_more : (byte : ℕ) (behind : List ℕ) → is_plain_byte byte ≡ true → list_all is_plain_byte behind ≡ true →
    list_all is_plain_byte (byte ∷ behind) ≡ true
one_more byte behind one rest = simp (one, rest) refl

plain_digits : (k n : ℕ) (behind : List ℕ) → list_all is_plain_byte behind ≡ true →
    list_all is_plain_byte (digits_onto k 10 false n behind) ≡ true
plain_digits zero n behind plain = plain
plain_digits (suc k) n behind plain =
    let longer = digit_glyph false (n % 10) ∷ behind in
    let one : list_all is_plain_byte longer ≡ true =
    one_more (digit_glyph false (n % 10)) behind (digit_plain (n % 10) (mod_below n 10 (lit< tt))) plain in
    elim (n / 10 == 0) as (λ last. list_all is_plain_byte (if last then longer else digits_onto k 10 false (n / 10) longer) ≡ true) [
      | true ↦ one
      | false ↦ plain_digits k (n / 10) longer one
    ]

pub plain_decimal : (n : ℕ) → list_all is_plain_byte (decimal n) ≡ true
unfolding digits
plain_decimal n = plain_digits 64 n [] refl

plain_stroke : (stroke : Stroke) → list_all is_plain_byte (stroke_look stroke) ≡ true
plain_stroke strokes.Life = refl
plain_stroke strokes.Leads = refl
plain_stroke strokes.Came = refl
plain_stroke strokes.Again = refl
plain_stroke strokes.Lost = refl
plain_stroke strokes.Crash = refl
plain_stroke strokes.Commit = refl

plain_spot : (spot : Spot) → list_all is_plain_byte (spot_look spot) ≡ true
plain_spot spots.Event = refl
plain_spot spots.Refused = refl
plain_spot spots.Begins = refl

plain_ink : (ink : Ink) → list_all is_plain_byte (ink_look ink) ≡ true
plain_ink inks.Title = refl
plain_ink inks.Legend = refl
plain_ink inks.Name = refl
plain_ink inks.Number = refl
plain_ink inks.Input = refl
plain_ink inks.Message = refl
plain_ink inks.Lost = refl
plain_ink inks.Refused = refl
plain_ink inks.Note = refl

plain_anchor : (anchor : Anchor) → list_all is_plain_byte (anchor_look anchor) ≡ true
plain_anchor anchors.Start = refl
plain_anchor anchors.Middle = refl
plain_anchor anchors.End = refl

plain_cover : (cover : Cover) → list_all is_plain_byte (cover_look cover) ≡ true
plain_cover covers.Whole = refl
plain_cover covers.Thin = refl

-- ---- each element

-- an empty element, and the end of its line
sign_line : (name attributes line : List ℕ) → list_all is_letter name ≡ true → 0 < length name → stands_apart attributes ≡ true → list_all is_plain_byte attributes ≡ true →
    (codes "<" ++ (name ++ (attributes ++ codes "/>"))) ++ codes "\n" ≡ line → IsContent line
sign_line name attributes line letters named apart plain e =
    subst IsContent e (both _ _ (sign name attributes (record { letters = letters; named = named; apart = apart; plain = plain })) line_end)

-- an element with something in it, and the end of its line
element_line : (name attributes inside line : List ℕ) → list_all is_letter name ≡ true → 0 < length name → stands_apart attributes ≡ true → list_all is_plain_byte attributes ≡ true → IsContent inside →
    (codes "<" ++ (name ++ (attributes ++ (codes ">" ++ (inside ++ (codes "</" ++ (name ++ codes ">"))))))) ++ codes "\n" ≡ line → IsContent line
element_line name attributes inside line letters named apart plain content e =
    subst IsContent e (both _ _ (element name attributes inside (record { letters = letters; named = named; apart = apart; plain = plain }) content) line_end)

line_content : (from to : Point) (stroke : Stroke) → IsContent (line_text from to stroke)
line_content from to stroke =
    sign_line (codes "line")
    (codes " x1=\"" ++ (decimal from.x ++ (codes "\" y1=\"" ++ (decimal from.y ++ (codes "\" x2=\"" ++ (decimal to.x ++ (codes "\" y2=\"" ++ (decimal to.y ++ (codes "\" " ++ stroke_look stroke)))))))))
    _ refl (lit< tt) refl (simp (list_all-append, plain_decimal, plain_stroke) refl) (simp append_assoc refl)

bow_content : (from to : Point) (far : ℕ) (stroke : Stroke) → IsContent (bow_text from to far stroke)
bow_content from to far stroke =
    sign_line (codes "path")
    (codes " d=\"M" ++ (decimal from.x ++ (codes "," ++ (decimal from.y ++ (codes " C" ++ (decimal far ++ (codes "," ++ (decimal from.y ++ (codes " " ++ (decimal far ++ (codes "," ++ (decimal to.y ++ (codes " " ++ (decimal to.x ++ (codes "," ++ (decimal to.y ++ (codes "\" " ++ stroke_look stroke)))))))))))))))))
    _ refl (lit< tt) refl (simp (list_all-append, plain_decimal, plain_stroke) refl) (simp append_assoc refl)

circle_content : (at : Point) (spot : Spot) → IsContent (circle_text at spot)
circle_content at spot =
    sign_line (codes "circle")
    (codes " cx=\"" ++ (decimal at.x ++ (codes "\" cy=\"" ++ (decimal at.y ++ (codes "\" " ++ spot_look spot)))))
    _ refl (lit< tt) refl (simp (list_all-append, plain_decimal, plain_spot) refl) (simp append_assoc refl)

white_content : (corner : Point) (width height : ℕ) (cover : Cover) → IsContent (white_text corner width height cover)
white_content corner width height cover =
    sign_line (codes "rect")
    (codes " x=\"" ++ (decimal corner.x ++ (codes "\" y=\"" ++ (decimal corner.y ++ (codes "\" width=\"" ++ (decimal width ++ (codes "\" height=\"" ++ (decimal height ++ (codes "\" " ++ cover_look cover)))))))))
    _ refl (lit< tt) refl (simp (list_all-append, plain_decimal, plain_cover) refl) (simp append_assoc refl)

words_content : (at : Point) (anchor : Anchor) (ink : Ink) (said : List ℕ) → IsContent (words_text at anchor ink said)
words_content at anchor ink said =
    element_line (codes "text")
    (codes " x=\"" ++ (decimal at.x ++ (codes "\" y=\"" ++ (decimal at.y ++ (codes "\" " ++ (anchor_look anchor ++ (codes " " ++ ink_look ink)))))))
    (flat_map shown_byte (take (most_of ink) said))
    _ refl (lit< tt) refl (simp (list_all-append, plain_decimal, plain_anchor, plain_ink) refl) (text (take (most_of ink) said)) (simp append_assoc refl)

tip_content : (corner : Point) (width height : ℕ) (told : List ℕ) → IsContent (tip_text corner width height told)
tip_content corner width height told =
    element_line (codes "rect")
    (codes " x=\"" ++ (decimal corner.x ++ (codes "\" y=\"" ++ (decimal corner.y ++ (codes "\" width=\"" ++ (decimal width ++ (codes "\" height=\"" ++ (decimal height ++ codes "\" class=\"event\" pointer-events=\"all\""))))))))
    (codes "<" ++ (codes "title" ++ ([] ++ (codes ">" ++ (flat_map shown_byte told ++ (codes "</" ++ (codes "title" ++ codes ">")))))))
    _ refl (lit< tt) refl (simp (list_all-append, plain_decimal) refl)
    (element (codes "title") [] (flat_map shown_byte told) (record { letters = refl; named = lit< tt; apart = refl; plain = refl }) (text told))
    (simp append_assoc refl)

pub shape_content : (shape : Shape) → IsContent (text_of shape)
shape_content (Line from to stroke) = line_content from to stroke
shape_content (Bow from to far stroke) = bow_content from to far stroke
shape_content (Circle at spot) = circle_content at spot
shape_content (White corner width height cover) = white_content corner width height cover
shape_content (Text at anchor ink said) = words_content at anchor ink (string_bytes said)
shape_content (Tip corner width height told) = tip_content corner width height (string_bytes told)

shapes_content : (shapes : List Shape) → IsContent (flat_map text_of shapes)
shapes_content [] = text []
shapes_content (shape ∷ shapes) = both (text_of shape) (flat_map text_of shapes) (shape_content shape) (shapes_content shapes)

-- ---- the whole

desc_content : IsContent (codes "<desc>" ++ (ABOUT.now ++ codes "</desc>\n"))
desc_content = element_line (codes "desc") [] ABOUT.now _ refl (lit< tt) refl refl (text ABOUT.now) refl

marker_content : IsContent (HEAD.now ++ codes "\n")
marker_content =
    element_line (codes "defs") []
    (codes "<marker id=\"head\" viewBox=\"0 0 9 8\" refX=\"9\" refY=\"4\" markerWidth=\"9\" markerHeight=\"8\" markerUnits=\"userSpaceOnUse\" orient=\"auto\"><path d=\"M0,0.5 L9,4 L0,7.5 z\" fill=\"#1f4e79\"/></marker>")
    _ refl (lit< tt) refl refl
    (element (codes "marker") (codes " id=\"head\" viewBox=\"0 0 9 8\" refX=\"9\" refY=\"4\" markerWidth=\"9\" markerHeight=\"8\" markerUnits=\"userSpaceOnUse\" orient=\"auto\"")
    (codes "<path d=\"M0,0.5 L9,4 L0,7.5 z\" fill=\"#1f4e79\"/>")
    (record { letters = refl; named = lit< tt; apart = refl; plain = refl })
    (sign (codes "path") (codes " d=\"M0,0.5 L9,4 L0,7.5 z\" fill=\"#1f4e79\"") (record { letters = refl; named = lit< tt; apart = refl; plain = refl })))
    refl

about_content : IsContent about_text
about_content = both (codes "<desc>" ++ (ABOUT.now ++ codes "</desc>\n")) (HEAD.now ++ codes "\n") desc_content marker_content

abbrev sheet : ℕ → ℕ → List ℕ
sheet width height = codes "<rect x=\"0\" y=\"0\" width=\"" ++ (decimal width ++ (codes "\" height=\"" ++ (decimal height ++ codes "\" fill=\"#ffffff\"/>\n")))

sheet_content : (width height : ℕ) → IsContent (sheet width height)
sheet_content width height =
    sign_line (codes "rect")
    (codes " x=\"0\" y=\"0\" width=\"" ++ (decimal width ++ (codes "\" height=\"" ++ (decimal height ++ codes "\" fill=\"#ffffff\""))))
    _ refl (lit< tt) refl (simp (list_all-append, plain_decimal) refl) (simp append_assoc refl)

abbrev all_drawn : List Shape → List ℕ
all_drawn shapes = codes "<g font-family=\"sans-serif\" fill=\"none\">" ++ ((codes "\n" ++ flat_map text_of shapes) ++ codes "</g>\n")

drawn_content : (shapes : List Shape) → IsContent (all_drawn shapes)
drawn_content shapes =
    element_line (codes "g") (codes " font-family=\"sans-serif\" fill=\"none\"") (codes "\n" ++ flat_map text_of shapes)
    _ refl (lit< tt) refl refl (both _ _ line_end (shapes_content shapes)) (simp append_assoc refl)

abbrev size_attributes : ℕ → ℕ → List ℕ
size_attributes width height = codes " xmlns=\"http://www.w3.org/2000/svg\" version=\"1.1\" width=\"" ++ (decimal width ++ (codes "\" height=\"" ++ (decimal height ++ (codes "\" viewBox=\"0 0 " ++ (decimal width ++ (codes " " ++ (decimal height ++ codes "\"")))))))

abbrev all_inside : ℕ → ℕ → List Shape → List ℕ
all_inside width height shapes =
    codes "\n" ++ (about_text ++ (sheet width height ++ all_drawn shapes))

abbrev xml : List ℕ
xml = codes "<svg"

abbrev group : List ℕ
group = codes "<g font-family=\"sans-serif\" fill=\"none\">"

open_parts : (width height : ℕ) → open_text width height ≡ xml ++ (size_attributes width height ++ (codes ">" ++ codes "\n"))
open_parts width height = simp append_assoc refl

sheet_parts : (width height : ℕ) → sheet_text width height ≡ sheet width height ++ (group ++ codes "\n")
sheet_parts width height = simp append_assoc refl

regroup : (front attributes ends line titles said titled about white begins shapes closes last : List ℕ) →
    (((((front ++ (attributes ++ (ends ++ line))) ++ (titles ++ (said ++ (titled ++ line)))) ++ about) ++ (white ++ (begins ++ line))) ++ shapes) ++ (closes ++ last)
    ≡ front ++ (attributes ++ (ends ++ (((line ++ titles) ++ (said ++ titled)) ++ ((line ++ (about ++ (white ++ (begins ++ ((line ++ shapes) ++ closes))))) ++ last))))
regroup front attributes ends line titles said titled about white begins shapes closes last = simp append_assoc refl

all_parts : (opened front attributes ends line titles said titled about sheeted white begins shapes closes last : List ℕ) →
    opened ≡ front ++ (attributes ++ (ends ++ line)) → sheeted ≡ white ++ (begins ++ line) →
    ((((opened ++ (titles ++ (said ++ (titled ++ line)))) ++ about) ++ sheeted) ++ shapes) ++ (closes ++ last)
    ≡ front ++ (attributes ++ (ends ++ (((line ++ titles) ++ (said ++ titled)) ++ ((line ++ (about ++ (white ++ (begins ++ ((line ++ shapes) ++ closes))))) ++ last))))
all_parts opened front attributes ends line titles said titled about sheeted white begins shapes closes last first second =
    rw (first, second) (regroup front attributes ends line titles said titled about white begins shapes closes last)

pub is_picture : (width height : ℕ) (title : List ℕ) (shapes : List Shape) → IsPicture title (svg_text width height title shapes)
is_picture width height title shapes = record {
  attributes = size_attributes width height;
  inside = all_inside width height shapes;
  tag = record { letters = refl; named = lit< tt; apart = refl; plain = simp (list_all-append, plain_decimal) refl };
  content = both _ _ line_end (both _ _ about_content (both _ _ (sheet_content width height) (drawn_content shapes)));
  whole = all_parts (open_text width height) xml (size_attributes width height) (codes ">") (codes "\n") (codes "<title>") (flat_map shown_byte title) (codes "</title>") about_text
      (sheet_text width height) (sheet width height) group (flat_map text_of shapes) (codes "</g>\n") (codes "</svg>\n")
      (open_parts width height) (sheet_parts width height);
}
