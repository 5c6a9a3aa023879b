-- The law of frames: what is read has just these bytes, and a message's bytes are read.
use Rattle.std.proofs.Common.{◌≡◌, ℕ, ◌+◌, ◌^◌, ◌≤◌, true, cond, eqb, leb, ◌&&◌, List, [], ◌++◌, length, drop, Result, Ok, Err, refl, sym, ap, subst, ◌∙◌, append_assoc, arith, length-append}
use Rattle.std.proofs.lemmas.Bool.{and_parts, eqb-true, eq-eqb, le-leb}
use Rattle.std.proofs.lemmas.List.{append-nil, drop_all, append_cancel_left}
use Rattle.std.specs.Prelude.{IfOk}
use Rattle.rows.specs.declared.refusal.Refusal.{Refusal}
use Rattle.fields_model.specs.Format.{Gives, ◌>>=◌, Format, spelled, number_at, number, IsBytes, Lawful}
use Rattle.fields_model.proofs.FormatLaws.{bind_ok, guard_in, past, length-spelled, number_lawful}
use Rattle.fields_model.proofs.WholeTexts.{no_text_begins_another}
use Rattle.machine_model.specs.MachineSpec.{MachineSpec, LawfulMachine}
use Rattle.rows.specs.declared.actor.Actor.{Actor}
use Rattle.wire.specs.declared.header.Header.{Header}
use Rattle.wire.specs.declared.body.Body.{Body}
use Rattle.wire.specs.Messages.{Message, kind_of}
use Rattle.wire.specs.Grammar.{header, body}
use Rattle.wire.proofs.GrammarLaws.{header_lawful, body_lawful, body_has_kind, body_is_short}
use Rattle.wire.specs.Frames.{frame_limit, sized, frame_text, size_at, frame_at, header_of, message_text, agrees, MessageFits, message_at}

pub header_length : (h : Header) → length (header.text h) ≡ 4
header_length h = simp (length-append, length-spelled)

-- ---- any header and any bodies

-- what a frame holds
record Holds {H B : Type 0} (head : Format H) (bodies : H → Format B) (bytes : List ℕ) (h : H) (b : B) : Type 0 where
  head_fits : head.Fits h
  body_fits : (bodies h).Fits b
  text : bytes ≡ frame_text head bodies h b

frame_found : {H B M : Type 0} (head : Format H) (bodies : H → Format B) (make : H → B → M) → Lawful head → ((h : H) → Lawful (bodies h)) → ((h : H) → length (head.text h) ≡ 4) → (bytes : List ℕ) (m : M) → IsBytes bytes → frame_at head bodies make bytes ≡ Ok m
    → (h : H) × (b : B) × Holds head bodies bytes h b × (make h b ≡ m)
frame_found {H} {B} {M} head bodies make lh lb four bytes m fits e =
    let a = bind_ok (head.read bytes 0) (λ h. size_at bytes h.1 >>= λ size. (bodies h.0).read bytes size.1 >>= λ b. cond (eqb b.1 (length bytes)) (Ok (make h.0 b.0)) (Err b.1)) m e in
    let h = a.0.0 in
    let z = bind_ok (size_at bytes a.0.1) (λ size. (bodies h).read bytes size.1 >>= λ b. cond (eqb b.1 (length bytes)) (Ok (make h b.0)) (Err b.1)) m a.2 in
    let n = bind_ok (number_at 4 0 (2 ^ 32) bytes a.0.1) (λ n. cond (eqb (n.0 + 8) (length bytes) && leb (length bytes) frame_limit) (Ok n) (Err a.0.1)) z.0 z.1 in
    let t = guard_in (eqb (n.0.0 + 8) (length bytes) && leb (length bytes) frame_limit) a.0.1 n.0 z.0 n.2 in
    let tests = and_parts (eqb (n.0.0 + 8) (length bytes)) (leb (length bytes) frame_limit) t.0 in
    let b = bind_ok ((bodies h).read bytes z.0.1) (λ b. cond (eqb b.1 (length bytes)) (Ok (make h b.0)) (Err b.1)) m z.2 in
    let g = guard_in (eqb b.0.1 (length bytes)) b.0.1 (make h b.0.0) m b.2 in
    let sh = lh.found bytes 0 h a.0.1 fits a.1 in
    let sn = (number_lawful 4 0 (2 ^ 32) (omega arith) (omega arith)).found bytes a.0.1 n.0.0 n.0.1 fits n.1 in
    let mid : z.0.1 ≡ n.0.1 = ap (λ (p : ℕ × ℕ). p.1) (sym t.1) in
    let sb = (lb h).found bytes n.0.1 b.0.0 b.0.1 fits (ap (λ (k : ℕ). (bodies h).read bytes k) (sym mid) ∙ b.1) in
    let text = (bodies h).text b.0.0 in
    let ended : b.0.1 ≡ length bytes = eqb-true _ _ g.0 in
    let body_size : n.0.0 + 8 ≡ length bytes = eqb-true _ _ tests.0 in
    let four_is = four h in
    let four_more = length-spelled 4 n.0.0 in
    let n-is : n.0.0 ≡ length text = omega (arith, sh.after, sn.after, sb.after, ended, body_size, four_is, four_more) in
    let none : drop b.0.1 bytes ≡ [] = drop_all b.0.1 bytes (omega (arith, ended)) in
    let last : drop n.0.1 bytes ≡ text = sb.here ∙ ap (λ (r : List ℕ). text ++ r) none ∙ append-nil text in
    let middle : drop a.0.1 bytes ≡ sized text = sn.here ∙ ap (λ (r : List ℕ). spelled 4 n.0.0 ++ r) last ∙ ap (λ (k : ℕ). spelled 4 k ++ text) n-is in
    (h, b.0.0, record { head_fits = sh.fits; body_fits = sb.fits; text = sh.here ∙ ap (λ (r : List ℕ). head.text h ++ r) middle }, g.1)

frame_length : {H B : Type 0} (head : Format H) (bodies : H → Format B) (h : H) (b : B) → length (head.text h) ≡ 4 → length (frame_text head bodies h b) ≡ length ((bodies h).text b) + 8
frame_length head bodies h b four =
    let text = (bodies h).text b in
    let whole = length-append (head.text h) (sized text) in
    let behind = length-append (spelled 4 (length text)) text in
    let size = length-spelled 4 (length text) in
    omega arith

frame_only : {H B M : Type 0} (head : Format H) (bodies : H → Format B) (make : H → B → M) → Lawful head → ((h : H) → Lawful (bodies h)) → ((h : H) → length (head.text h) ≡ 4) → (bytes : List ℕ) (h : H) (b : B) → Holds head bodies bytes h b → length ((bodies h).text b) ≤ 16777208 → frame_at head bodies make bytes ≡ Ok (make h b)
frame_only head bodies make lh lb four bytes h b holds short =
    let text = (bodies h).text b in
    let size = spelled 4 (length text) in
    let four_more = length-spelled 4 (length text) in
    let four_is = four h in
    let len : length bytes ≡ length text + 8 = ap length holds.text ∙ frame_length head bodies h b four_is in
    let first = lh.only bytes 0 h (size ++ text) holds.head_fits holds.text in
    let here = past 0 bytes (head.text h) (size ++ text) holds.text in
    let second = (number_lawful 4 0 (2 ^ 32) (omega arith) (omega arith)).only bytes (0 + length (head.text h)) (length text) text (omega arith, omega (arith, short)) here in
    let here2 = past (0 + length (head.text h)) bytes size text here in
    let third = (lb h).only bytes (0 + length (head.text h) + length size) b [] holds.body_fits (here2 ∙ sym (append-nil text)) in
    let t1 : eqb (length text + 8) (length bytes) ≡ true = eq-eqb _ _ (sym len) in
    let t2 : leb (length bytes) frame_limit ≡ true = le-leb _ _ (omega (arith, len, short)) in
    let t3 : eqb (0 + length (head.text h) + length size + length text) (length bytes) ≡ true = eq-eqb _ _ (omega (arith, len, four_is, four_more)) in
    rw (first, second, t1, t2, third, t3) refl

-- ---- messages

pub body_within : {S C : Type 0} (spec : MachineSpec S C) → LawfulMachine spec → (b : Body S C) → (body spec (kind_of b)).Fits b → length ((body spec (kind_of b)).text b) ≤ 16777208
body_within spec law b fits = omega (arith, (body_lawful spec law (kind_of b)).short b fits, body_is_short spec law (kind_of b))

pub message_is_short : {S C : Type 0} (spec : MachineSpec S C) → LawfulMachine spec → (m : Message S C) → MessageFits spec m → length (message_text spec m) ≤ frame_limit
message_is_short spec law m fits =
    omega (arith, frame_length header (λ (h : Header). body spec h.kind) (header_of m) m.body (header_length (header_of m)), body_within spec law m.body fits.body_fits)

pub message_found : {S C : Type 0} (spec : MachineSpec S C) → LawfulMachine spec → (bytes : List ℕ) (m : Message S C) → IsBytes bytes → message_at spec bytes ≡ Ok m → MessageFits spec m × (bytes ≡ message_text spec m)
unfolding message_at
message_found {S} {C} spec law bytes m fits e =
    let bodies : Header → Format (Body S C) = λ (h : Header). body spec h.kind in
    let make : Header → Body S C → Message S C = λ h b. record { from = h.from; to = h.to; body = b } in
    let read = bind_ok (frame_at header bodies make bytes) (λ n. cond (agrees spec n.body) (Ok n) (Err 32)) m e in
    let passed = guard_in (agrees spec read.0.body) 32 read.0 m read.2 in
    let f = frame_found header bodies make header_lawful (λ h. body_lawful spec law h.kind) header_length bytes m fits (read.1 ∙ ap (λ n. Ok n) passed.1) in
    let h = f.0 in
    let b = f.1 in
    let holds = f.2 in
    let same : kind_of b ≡ h.kind = body_has_kind spec h.kind b holds.body_fits in
    let made : Message S C = record { from = h.from; to = h.to; body = b } in
    let head_is : h ≡ header_of made = ap (λ k. let made : Header = record { kind = k; from = h.from; to = h.to } in made) (sym same) in
    let moved = subst (λ (g : Header). Holds header bodies bytes g b) head_is holds in
    let agreed : agrees spec b ≡ true = ap (λ (n : Message S C). agrees spec n.body) (f.3 ∙ sym passed.1) ∙ passed.0 in
    subst (λ (m : Message S C). MessageFits spec m × (bytes ≡ message_text spec m)) f.3 (record { header_fits = moved.head_fits; body_fits = moved.body_fits; agrees = agreed }, moved.text)

pub message_only : {S C : Type 0} (spec : MachineSpec S C) → LawfulMachine spec → (m : Message S C) → MessageFits spec m → message_at spec (message_text spec m) ≡ Ok m
unfolding message_at
message_only {S} {C} spec law m fits =
    let read = frame_only header (λ (h : Header). body spec h.kind) (λ h b. let made : Message S C = record { from = h.from; to = h.to; body = b } in made) header_lawful (λ h. body_lawful spec law h.kind) header_length (message_text spec m) (header_of m) m.body
    (record { head_fits = fits.header_fits; body_fits = fits.body_fits; text = refl }) (body_within spec law m.body fits.body_fits) in
    rw (read, fits.agrees) refl

pub found_of : {S C : Type 0} (spec : MachineSpec S C) → LawfulMachine spec → (bytes : List ℕ) (r : Result (Message S C) Refusal) → IsBytes bytes → Gives r (message_at spec bytes) → IfOk r (λ m. MessageFits spec m × (bytes ≡ message_text spec m))
found_of spec law bytes (Ok m) fits given = message_found spec law bytes m fits given
found_of spec law bytes (Err e) fits given = tt

-- ---- no frame begins another

first_is : {A : Type 0} (f : Format A) → Lawful f → (a b : A) (x y : List ℕ) → f.Fits a → f.Fits b → f.text a ++ x ≡ f.text b ++ y → (a ≡ b) × (x ≡ y)
first_is f lf a b x y fa fb e =
    let same = no_text_begins_another f lf a b x y fa fb e in
    (same, append_cancel_left (f.text a) x y (e ∙ ap (λ (v : _). f.text v ++ y) (sym same)))

same_body : {H B : Type 0} (bodies : H → Format B) → ((h : H) → Lawful (bodies h)) → (h k : H) (b c : B) (x y : List ℕ) → h ≡ k → (bodies h).Fits b → (bodies k).Fits c → (bodies h).text b ++ x ≡ (bodies k).text c ++ y → b ≡ c
same_body bodies lb h k b c x y same fb fc e =
    no_text_begins_another (bodies h) (lb h) b c x y fb (subst (λ g. (bodies g).Fits c) (sym same) fc) (e ∙ ap (λ g. (bodies g).text c ++ y) (sym same))

same_message : {S C : Type 0} (m n : Message S C) → m.from ≡ n.from → m.to ≡ n.to → m.body ≡ n.body → m ≡ n
same_message {S} {C} m n f t b =
    let made : Actor → Actor → Body S C → Message S C = λ from to body. record { from = from; to = to; body = body } in
    ap (λ x. made x m.to m.body) f ∙ ap (λ x. made n.from x m.body) t ∙ ap (λ x. made n.from n.to x) b

frame_parts : {H B : Type 0} (head : Format H) (bodies : H → Format B) (h : H) (b : B) (x : List ℕ) → frame_text head bodies h b ++ x ≡ head.text h ++ (spelled 4 (length ((bodies h).text b)) ++ ((bodies h).text b ++ x))
frame_parts head bodies h b x = simp append_assoc

pub frames_apart : {S C : Type 0} (spec : MachineSpec S C) → LawfulMachine spec → (m n : Message S C) (x y : List ℕ) → MessageFits spec m → MessageFits spec n → message_text spec m ++ x ≡ message_text spec n ++ y → m ≡ n
frames_apart {S} {C} spec law m n x y fm fn e =
    let bodies : Header → Format (Body S C) = λ (h : Header). body spec h.kind in
    let tm = (bodies (header_of m)).text m.body in
    let tn = (bodies (header_of n)).text n.body in
    let parts = sym (frame_parts header bodies (header_of m) m.body x) ∙ e ∙ frame_parts header bodies (header_of n) n.body y in
    let heads = first_is header header_lawful (header_of m) (header_of n) (spelled 4 (length tm) ++ (tm ++ x)) (spelled 4 (length tn) ++ (tn ++ y)) fm.header_fits fn.header_fits parts in
    let number_is = number_lawful 4 0 (2 ^ 32) (omega arith) (omega arith) in
    let short_m = body_within spec law m.body fm.body_fits in
    let short_n = body_within spec law n.body fn.body_fits in
    let sizes = first_is (number 4 0 (2 ^ 32)) number_is (length tm) (length tn) (tm ++ x) (tn ++ y) (omega arith, omega arith) (omega arith, omega arith) heads.1 in
    let same = same_body bodies (λ h. body_lawful spec law h.kind) (header_of m) (header_of n) m.body n.body x y heads.0 fm.body_fits fn.body_fits sizes.1 in
    same_message m n (ap (λ (h : Header). h.from) heads.0) (ap (λ (h : Header). h.to) heads.0) same
