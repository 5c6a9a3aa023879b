-- The elements of a picture, as they are written.
use Rattle.std.specs.Prelude.{ℕ, ◌-◌, ◌^◌, List, ◌++◌, take, decimal, codes, string_bytes}
use Rattle.std.specs.List.{flat_map}
use Rattle.sim_draw.specs.declared.svg.TheConstants.{ABOUT, HEAD}
use Rattle.sim_draw.specs.declared.layout.Point.{Point}
use Rattle.sim_draw.specs.declared.shape.Shape.{Shape}
use Rattle.sim_draw.specs.declared.shape.Shape.TheVariants.{Line, Bow, Circle, White, Text, Tip}
use Rattle.sim_draw.specs.declared.ink.Ink.{Ink}
use Rattle.sim_draw.specs.declared.ink.Ink.TheVariants as inks
use Rattle.sim_draw.specs.declared.ink.Stroke.{Stroke}
use Rattle.sim_draw.specs.declared.ink.Stroke.TheVariants as strokes
use Rattle.sim_draw.specs.declared.ink.Spot.{Spot}
use Rattle.sim_draw.specs.declared.ink.Spot.TheVariants as spots
use Rattle.sim_draw.specs.declared.ink.Anchor.{Anchor}
use Rattle.sim_draw.specs.declared.ink.Anchor.TheVariants as anchors
use Rattle.sim_draw.specs.declared.ink.Cover.{Cover}
use Rattle.sim_draw.specs.declared.ink.Cover.TheVariants as covers
use Rattle.sim_draw.specs.Pictures.{shown_byte}

-- how a text looks
abbrev pub ink_look : Ink → List ℕ
ink_look inks.Title = codes "font-size=\"15\" font-weight=\"bold\" fill=\"#000000\""
ink_look inks.Legend = codes "font-size=\"10\" fill=\"#444444\""
ink_look inks.Name = codes "font-size=\"13\" font-weight=\"bold\" fill=\"#000000\""
ink_look inks.Number = codes "font-size=\"9\" fill=\"#666666\""
ink_look inks.Input = codes "font-size=\"11\" font-weight=\"bold\" fill=\"#000000\""
ink_look inks.Message = codes "font-size=\"11\" fill=\"#123f6b\""
ink_look inks.Lost = codes "font-size=\"9\" font-style=\"italic\" fill=\"#8a1f11\""
ink_look inks.Refused = codes "font-size=\"11\" font-style=\"italic\" fill=\"#777777\""
ink_look inks.Note = codes "font-size=\"11\" font-weight=\"bold\" fill=\"#17602f\""

-- how a line looks
abbrev pub stroke_look : Stroke → List ℕ
stroke_look strokes.Life = codes "stroke=\"#777777\" stroke-width=\"1\""
stroke_look strokes.Leads = codes "stroke=\"#d08a1d\" stroke-width=\"7\""
stroke_look strokes.Came = codes "stroke=\"#1f4e79\" stroke-width=\"1.2\" marker-end=\"url(#head)\""
stroke_look strokes.Again = codes "stroke=\"#1f4e79\" stroke-width=\"1.2\" stroke-dasharray=\"5,4\" marker-end=\"url(#head)\""
stroke_look strokes.Lost = codes "stroke=\"#8a1f11\" stroke-width=\"1\""
stroke_look strokes.Crash = codes "stroke=\"#000000\" stroke-width=\"2.5\""
stroke_look strokes.Commit = codes "stroke=\"#17602f\" stroke-width=\"3\""

-- how a circle looks
abbrev pub spot_look : Spot → List ℕ
spot_look spots.Event = codes "r=\"3\" fill=\"#000000\""
spot_look spots.Refused = codes "r=\"2\" fill=\"#ffffff\" stroke=\"#777777\""
spot_look spots.Begins = codes "r=\"5\" fill=\"#ffffff\" stroke=\"#000000\" stroke-width=\"2\""

-- which part of a text stands at its point
abbrev pub anchor_look : Anchor → List ℕ
anchor_look anchors.Start = codes "text-anchor=\"start\""
anchor_look anchors.Middle = codes "text-anchor=\"middle\""
anchor_look anchors.End = codes "text-anchor=\"end\""

-- how the white below a text looks
abbrev pub cover_look : Cover → List ℕ
cover_look covers.Whole = codes "fill=\"#ffffff\""
cover_look covers.Thin = codes "fill=\"#ffffff\" fill-opacity=\"0.8\""

-- the most characters of a text that are drawn
abbrev pub most_of : Ink → ℕ
most_of inks.Title = 2 ^ 64 - 1
most_of inks.Legend = 2 ^ 64 - 1
most_of _ = 24

abbrev pub line_text : Point → Point → Stroke → List ℕ
line_text from to stroke = codes "<line x1=\"" ++ (decimal from.x ++ (codes "\" y1=\"" ++ (decimal from.y ++ (codes "\" x2=\"" ++ (decimal to.x ++ (codes "\" y2=\"" ++ (decimal to.y ++ (codes "\" " ++ (stroke_look stroke ++ codes "/>\n")))))))))

abbrev pub bow_text : Point → Point → ℕ → Stroke → List ℕ
bow_text from to far stroke = codes "<path d=\"M" ++ (decimal from.x ++ (codes "," ++ (decimal from.y ++ (codes " C" ++ (decimal far ++ (codes "," ++ (decimal from.y ++ (codes " " ++ (decimal far ++ (codes "," ++ (decimal to.y ++ (codes " " ++ (decimal to.x ++ (codes "," ++ (decimal to.y ++ (codes "\" " ++ (stroke_look stroke ++ codes "/>\n")))))))))))))))))

abbrev pub circle_text : Point → Spot → List ℕ
circle_text at spot = codes "<circle cx=\"" ++ (decimal at.x ++ (codes "\" cy=\"" ++ (decimal at.y ++ (codes "\" " ++ (spot_look spot ++ codes "/>\n")))))

abbrev pub white_text : Point → ℕ → ℕ → Cover → List ℕ
white_text corner width height cover = codes "<rect x=\"" ++ (decimal corner.x ++ (codes "\" y=\"" ++ (decimal corner.y ++ (codes "\" width=\"" ++ (decimal width ++ (codes "\" height=\"" ++ (decimal height ++ (codes "\" " ++ (cover_look cover ++ codes "/>\n")))))))))

abbrev pub words_text : Point → Anchor → Ink → List ℕ → List ℕ
words_text at anchor ink text = codes "<text x=\"" ++ (decimal at.x ++ (codes "\" y=\"" ++ (decimal at.y ++ (codes "\" " ++ (anchor_look anchor ++ (codes " " ++ (ink_look ink ++ (codes ">" ++ (flat_map shown_byte (take (most_of ink) text) ++ codes "</text>\n")))))))))

-- an area that is not seen, with what is told where a pointer rests on it
abbrev pub tip_text : Point → ℕ → ℕ → List ℕ → List ℕ
tip_text corner width height told = codes "<rect x=\"" ++ (decimal corner.x ++ (codes "\" y=\"" ++ (decimal corner.y ++ (codes "\" width=\"" ++ (decimal width ++ (codes "\" height=\"" ++ (decimal height ++ (codes "\" class=\"event\" pointer-events=\"all\"><title>" ++ (flat_map shown_byte told ++ codes "</title></rect>\n")))))))))

-- an element, as a line of its own
abbrev pub text_of : Shape → List ℕ
text_of (Line from to stroke) = line_text from to stroke
text_of (Bow from to far stroke) = bow_text from to far stroke
text_of (Circle at spot) = circle_text at spot
text_of (White corner width height cover) = white_text corner width height cover
text_of (Text at anchor ink text) = words_text at anchor ink (string_bytes text)
text_of (Tip corner width height told) = tip_text corner width height (string_bytes told)

abbrev pub title_text : List ℕ → List ℕ
title_text title = codes "<title>" ++ (flat_map shown_byte title ++ codes "</title>\n")

abbrev pub about_text : List ℕ
about_text = codes "<desc>" ++ (ABOUT.now ++ (codes "</desc>\n" ++ (HEAD.now ++ codes "\n")))

abbrev pub sheet_text : ℕ → ℕ → List ℕ
sheet_text width height = codes "<rect x=\"0\" y=\"0\" width=\"" ++ (decimal width ++ (codes "\" height=\"" ++ (decimal height ++ codes "\" fill=\"#ffffff\"/>\n<g font-family=\"sans-serif\" fill=\"none\">\n")))

-- the front of a picture, up to its first element
abbrev pub open_text : ℕ → ℕ → List ℕ
open_text width height = codes "<svg xmlns=\"http://www.w3.org/2000/svg\" version=\"1.1\" width=\"" ++ (decimal width ++ (codes "\" height=\"" ++ (decimal height ++ (codes "\" viewBox=\"0 0 " ++ (decimal width ++ (codes " " ++ (decimal height ++ codes "\">\n")))))))

abbrev pub head_text : ℕ → ℕ → List ℕ → List ℕ
head_text width height title = ((open_text width height ++ title_text title) ++ about_text) ++ sheet_text width height

abbrev pub svg_text : ℕ → ℕ → List ℕ → List Shape → List ℕ
svg_text width height title shapes = (head_text width height title ++ flat_map text_of shapes) ++ codes "</g>\n</svg>\n"
