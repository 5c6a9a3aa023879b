-- Frames in one buffer: each look-up, one frame more, and fewer.
use Rattle.std.proofs.Common.{◌≡◌, ℕ, zero, suc, ◌+◌, ◌-◌, ◌<◌, ◌≤◌, Some, None, List, [], ◌∷◌, ◌++◌, length, take, drop, refl, sym, ap, ap₂, subst, ◌∙◌, arith, length-append, slice_get, get_or, slice_range}
use Rattle.std.proofs.lemmas.List.{take-take, take-append-le, drop-take, take_all, length-take-le}
use Rattle.std.proofs.Math.Seq.{drop-append_seam}
use Rattle.rows.specs.declared.actor.Actor.{Actor}
use Rattle.wire.specs.declared.frames.End.{End}
use Rattle.wire.specs.Frames.{Frame}
use Rattle.wire.specs.Buffers.{frames_from, EndsAt}
use Rattle.wire.specs.Inner.Ends.{start_of}

abbrev pub framed : Actor → List ℕ → Frame
framed to bytes = record { to = to; bytes = bytes }

-- ---- look-ups

pub count : (start : ℕ) (ends : List End) (bytes : List ℕ) → length (frames_from start ends bytes) ≡ length ends
count start [] bytes = refl
count start (e ∷ ends) bytes = ap suc (count e.end ends bytes)

pub frame_none : (start : ℕ) (ends : List End) (bytes : List ℕ) (k : ℕ) → slice_get ends k ≡ None → slice_get (frames_from start ends bytes) k ≡ None
frame_none start [] bytes k h = refl
frame_none start (e ∷ ends) bytes zero h = absurd (cc)
frame_none start (e ∷ ends) bytes (suc k) h = frame_none e.end ends bytes k h

pub frame_some : (start : ℕ) (ends : List End) (bytes : List ℕ) (k : ℕ) (e : End) → slice_get ends k ≡ Some e →
    slice_get (frames_from start ends bytes) k ≡ Some (framed e.to (slice_range bytes (start_of start ends k) e.end))
frame_some start [] bytes k e h = absurd (cc)
frame_some start (f ∷ ends) bytes zero e h =
    let same : f ≡ e = cc in
    ap (λ (g : End). Some (framed g.to (slice_range bytes start g.end))) same
frame_some start (f ∷ ends) bytes (suc k) e h = frame_some f.end ends bytes k e h

-- the end before a place is where the frame there begins
end_of : (start : ℕ) (ends : List End) (k : ℕ) (d : End) → k < length ends → (get_or ends k d).end ≡ start_of start ends (suc k)
end_of start [] k d h = absurd (omega arith)
end_of start (e ∷ ends) zero d h = refl
end_of start (e ∷ ends) (suc k) d h = end_of e.end ends k d (omega arith)

pub before : (start : ℕ) (ends : List End) (k : ℕ) (d : End) → 1 ≤ k → k ≤ length ends → (get_or ends (k - 1) d).end ≡ start_of start ends k
before start ends k d low high =
    let next : suc (k - 1) ≡ k = omega arith in
    end_of start ends (k - 1) d (omega arith) ∙ ap (λ j. start_of start ends j) next

-- ---- ends rise

pub rises : (start : ℕ) (ends : List End) (last : ℕ) → EndsAt start ends last → start ≤ last
rises start [] last h = omega (arith, h)
rises start (e ∷ ends) last h = omega (arith, h.0, rises e.end ends last h.1)

pub inside : (start : ℕ) (ends : List End) (last k : ℕ) (e : End) → EndsAt start ends last → slice_get ends k ≡ Some e → (start_of start ends k ≤ e.end) × (e.end ≤ last)
inside start [] last k e h at = absurd (cc)
inside start (f ∷ ends) last zero e h at =
    let same : f.end ≡ e.end = (let is : f ≡ e = cc in ap (λ (g : End). g.end) is) in
    (omega (arith, h.0), omega (arith, rises f.end ends last h.1))
inside start (f ∷ ends) last (suc k) e h at = inside f.end ends last k e h.1 at

-- the first bytes are enough
part_is : (bytes : List ℕ) (start end last : ℕ) → start ≤ end → end ≤ last → slice_range bytes start end ≡ drop start (take end (take last bytes))
part_is bytes start end last le in_it =
    let whole : start + (end - start) ≡ end = omega arith in
    sym (drop-take start (end - start) bytes) ∙ ap (λ k. drop start (take k bytes)) whole ∙ ap (λ l. drop start l) (sym (take-take end last bytes in_it))

pub agree : (start : ℕ) (ends : List End) (last : ℕ) (a b : List ℕ) → EndsAt start ends last → take last a ≡ take last b → frames_from start ends a ≡ frames_from start ends b
agree start [] last a b h same = refl
agree start (e ∷ ends) last a b h same =
    let le = rises e.end ends last h.1 in
    let part : slice_range a start e.end ≡ slice_range b start e.end = part_is a start e.end last h.0 le ∙ ap (λ l. drop start (take e.end l)) same ∙ sym (part_is b start e.end last h.0 le) in
    ap₂ (λ f fs. framed e.to f ∷ fs) part (agree e.end ends last a b h.1 same)

-- ---- one more

one_end_more : (start : ℕ) (ends : List End) (last : ℕ) (e : End) → EndsAt start ends last → last ≤ e.end → EndsAt start (ends ++ e ∷ []) e.end
one_end_more start [] last e h le = (omega (arith, h), refl)
one_end_more start (f ∷ ends) last e h le = (h.0, one_end_more f.end ends last e h.1 le)

one_part_more : (start : ℕ) (ends : List End) (last : ℕ) (e : End) (bytes : List ℕ) → EndsAt start ends last →
    frames_from start (ends ++ e ∷ []) bytes ≡ frames_from start ends bytes ++ framed e.to (slice_range bytes last e.end) ∷ []
one_part_more start [] last e bytes h = ap (λ k. framed e.to (slice_range bytes k e.end) ∷ []) h
one_part_more start (f ∷ ends) last e bytes h =
    ap (λ fs. framed f.to (slice_range bytes start f.end) ∷ fs) (one_part_more f.end ends last e bytes h.1)

-- a text came to the end of the bytes, and its end behind the other ends
pub record Pushed (ends : List End) (bytes : List ℕ) (to : Actor) (text : List ℕ) (ends2 : List End) (bytes2 : List ℕ) : Type 0 where
  pub rise : EndsAt 0 ends2 (length bytes2)
  pub frames : frames_from 0 ends2 bytes2 ≡ frames_from 0 ends bytes ++ framed to text ∷ []

pub pushed : (ends : List End) (bytes : List ℕ) (e : End) (text : List ℕ) (ends2 : List End) (bytes2 : List ℕ) → EndsAt 0 ends (length bytes) →
    bytes2 ≡ bytes ++ text → e.end ≡ length bytes2 → ends2 ≡ ends ++ e ∷ [] → Pushed ends bytes e.to text ends2 bytes2
pushed ends bytes e text ends2 bytes2 h came end_is one =
    let long : length bytes2 ≡ length bytes + length text = ap length came ∙ length-append bytes text in
    let rise : EndsAt 0 (ends ++ e ∷ []) e.end = one_end_more 0 ends (length bytes) e h (omega arith) in
    let same : take (length bytes) (bytes ++ text) ≡ take (length bytes) bytes = take-append-le (length bytes) bytes text (omega arith) in
    let old : frames_from 0 ends (bytes ++ text) ≡ frames_from 0 ends bytes = agree 0 ends (length bytes) (bytes ++ text) bytes h same in
    let size : length text ≤ e.end - length bytes = omega arith in
    let text_is : slice_range (bytes ++ text) (length bytes) e.end ≡ text = ap (λ l. take (e.end - length bytes) l) (drop-append_seam bytes text) ∙ take_all (e.end - length bytes) text size in
    let more : frames_from 0 (ends ++ e ∷ []) (bytes ++ text) ≡ frames_from 0 ends bytes ++ framed e.to text ∷ [] =
    one_part_more 0 ends (length bytes) e (bytes ++ text) h ∙ ap₂ (λ fs t. fs ++ framed e.to t ∷ []) old text_is in
    record {
      rise = subst (λ l. EndsAt 0 l (length bytes2)) (sym one) (subst (λ k. EndsAt 0 (ends ++ e ∷ []) k) end_is rise);
      frames = ap₂ (λ es bs. frames_from 0 es bs) one came ∙ more;
    }

-- ---- fewer

fewer_ends : (start : ℕ) (ends : List End) (last k : ℕ) → EndsAt start ends last → k < length ends → EndsAt start (take k ends) (start_of start ends k)
fewer_ends start [] last k h le = absurd (omega arith)
fewer_ends start (e ∷ ends) last zero h le = refl
fewer_ends start (e ∷ ends) last (suc k) h le = (h.0, fewer_ends e.end ends last k h.1 (omega arith))

start_inside : (start : ℕ) (ends : List End) (last k : ℕ) → EndsAt start ends last → k < length ends → start_of start ends k ≤ last
start_inside start [] last k h le = absurd (omega arith)
start_inside start (e ∷ ends) last zero h le = omega (arith, h.0, rises e.end ends last h.1)
start_inside start (e ∷ ends) last (suc k) h le = start_inside e.end ends last k h.1 (omega arith)

fewer_frames : (start : ℕ) (ends : List End) (bytes : List ℕ) (k : ℕ) → frames_from start (take k ends) bytes ≡ take k (frames_from start ends bytes)
fewer_frames start ends bytes zero = refl
fewer_frames start [] bytes (suc k) = refl
fewer_frames start (e ∷ ends) bytes (suc k) = ap (λ fs. framed e.to (slice_range bytes start e.end) ∷ fs) (fewer_frames e.end ends bytes k)

-- the first k ends are left, and the bytes up to the last of them
pub record Cut (ends : List End) (bytes : List ℕ) (k : ℕ) (ends2 : List End) (bytes2 : List ℕ) : Type 0 where
  pub rise : EndsAt 0 ends2 (length bytes2)
  pub frames : frames_from 0 ends2 bytes2 ≡ take k (frames_from 0 ends bytes)

pub cut : (ends : List End) (bytes : List ℕ) (k at : ℕ) (ends2 : List End) (bytes2 : List ℕ) → EndsAt 0 ends (length bytes) → k < length ends →
    at ≡ start_of 0 ends k → ends2 ≡ take k ends → bytes2 ≡ take at bytes → Cut ends bytes k ends2 bytes2
cut ends bytes k at ends2 bytes2 h less at_is ends_are bytes_are =
    let first : EndsAt 0 (take k ends) at = subst (λ n. EndsAt 0 (take k ends) n) (sym at_is) (fewer_ends 0 ends (length bytes) k h less) in
    let in_it : start_of 0 ends k ≤ length bytes = start_inside 0 ends (length bytes) k h less in
    let long : length bytes2 ≡ at = ap length bytes_are ∙ length-take-le at bytes (omega arith) in
    let same : take at bytes2 ≡ take at bytes = ap (λ l. take at l) bytes_are ∙ take-take at at bytes (omega arith) in
    let kept : frames_from 0 (take k ends) bytes2 ≡ frames_from 0 (take k ends) bytes = agree 0 (take k ends) at bytes2 bytes first same in
    record {
      rise = subst (λ l. EndsAt 0 l (length bytes2)) (sym ends_are) (subst (λ n. EndsAt 0 (take k ends) n) (sym long) first);
      frames = ap (λ es. frames_from 0 es bytes2) ends_are ∙ (kept ∙ fewer_frames 0 ends bytes k);
    }

-- all of them are left
pub none_cut : (ends : List End) (bytes : List ℕ) (k : ℕ) → length ends ≤ k → frames_from 0 ends bytes ≡ take k (frames_from 0 ends bytes)
none_cut ends bytes k le = sym (take_all k (frames_from 0 ends bytes) (omega (arith, count 0 ends bytes)))
