-- What is drawn one behind the other, and what the title counts.
use Rattle.std.proofs.Common.{◌≡◌, ◌∙◌, ℕ, Result, Ok, Err, List, ◌++◌, length, ap, subst, append_assoc}
use Rattle.std.proofs.lemmas.List.Sums.{count_by-le-length}
use Rattle.std.specs.Prelude.{IfOk, OnOk}
use Rattle.std.specs.List.{count_by}
use Rattle.sim_draw.specs.declared.layout.Layout.{Layout}
use Rattle.sim_draw.specs.declared.layout.Point.{Point}
use Rattle.sim_draw.specs.declared.layout.Side.{Side}
use Rattle.sim_draw.specs.declared.record.Record.{Record}
use Rattle.sim_draw.specs.declared.record.Sending.{Sending}
use Rattle.sim_draw.specs.declared.shape.Shape.{Shape}
use Rattle.sim_draw.specs.declared.ink.Stroke.TheVariants as strokes
use Rattle.sim_draw.specs.Inner.Positions.{point_at, side_towards}
use Rattle.sim_draw.specs.Inner.Shapes.{line_text}
use Rattle.sim_draw.specs.Pictures.{IsPicture, IsRunPicture, run_title}
use Rattle.sim_draw.specs.Inner.Records.{is_lost}
use Rattle.sim_draw.specs.Inner.Drawn.{drawn, Draws, stub_end, stub_text, lost_end_text}

draws_both : {E : Type 0} (r : Result (Unit {0}) E) (a b c : List Shape) (x y : List ℕ) → Draws a b x → OnOk r (Draws b c y) → OnOk r (Draws a c (x ++ y))
draws_both (Ok u) a b c x y first second = second ∙ (ap (λ t. t ++ y) first ∙ append_assoc (drawn a) x y)
draws_both (Err e) a b c x y first second = second

-- the line of a message that never came, and behind it its end
pub stub_drawn : {E : Type 0} (r : Result (Unit {0}) E) (a b c : List Shape) (layout : Layout) (message : ℕ) (sending : Sending) (text : List ℕ)
    (from end : Point) (side : Side) → from ≡ point_at layout sending.from sending.row → end ≡ stub_end layout message sending → side ≡ side_towards sending.from sending.to
    → Draws a b (line_text from end strokes.Lost) → OnOk r (Draws b c (lost_end_text end side text)) → OnOk r (Draws a c (stub_text layout message sending text))
stub_drawn r a b c layout message sending text from end side at ends towards line rest =
    let start = point_at layout sending.from sending.row in
    let stub = stub_end layout message sending in
    let left = side_towards sending.from sending.to in
    draws_both r a b c (line_text start stub strokes.Lost) (lost_end_text stub left text)
    (subst (λ p. Draws a b (line_text start p strokes.Lost)) ends (subst (λ p. Draws a b (line_text p end strokes.Lost)) at line))
    (subst (λ s. OnOk r (Draws b c (lost_end_text stub s text))) towards (subst (λ p. OnOk r (Draws b c (lost_end_text p side text))) ends rest))

-- a picture whose title counts what was noted
pub run_drawn : {X E : Type 0} (bytes : X → List ℕ) (q : Result X E) (run : Record) (servers clients events : ℕ) (title : List ℕ)
    → run.servers ≡ servers → run.clients ≡ clients → length run.steps.items ≡ events
    → title ≡ run_title run.servers run.clients (length run.steps.items) (length run.sendings.items) (count_by is_lost run.sendings.items)
    → IfOk q (λ picture. IsPicture title (bytes picture)) → IfOk q (λ picture. IsRunPicture servers clients events (bytes picture))
run_drawn bytes (Err e) run servers clients events title is_servers is_clients is_events counted h = tt
run_drawn bytes (Ok picture) run servers clients events title is_servers is_clients is_events counted h =
    let messages = length run.sendings.items in
    let lost = count_by is_lost run.sendings.items in
    record {
      messages = messages;
      lost = lost;
      some = count_by-le-length is_lost run.sendings.items;
      picture = subst (λ t. IsPicture t (bytes picture))
          (counted
          ∙ (ap (λ n. run_title n run.clients (length run.steps.items) messages lost) is_servers
          ∙ (ap (λ n. run_title servers n (length run.steps.items) messages lost) is_clients
          ∙ ap (λ n. run_title servers clients n messages lost) is_events)))
          h;
    }
