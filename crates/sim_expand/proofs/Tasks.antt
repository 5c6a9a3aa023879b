-- How tasks are told by what a broker says of them.
use Rattle.std.proofs.Common.{◌≡◌, Bool, false, Option, None, Some, ap, refl, sym}
use Rattle.std.specs.Prelude.{◌||◌, ◌&&◌, is_some, nat_lt, not, option_map}
use Rattle.rows.specs.State.{State}
use Rattle.group_model.specs.Brokers.{Acked, Broker, Free, MOST, Mark, Out, Task, is_free}
use Rattle.eval_broker.specs.Answers.{is_acked, is_task_acked, pair_of, pair_of_mark}
use Rattle.leader.specs.OpenDesks.{OpenDesk}
use Rattle.sim_expand.specs.Inner.Uses.{gives_one, gives_out, is_taken, may_go}

marked : (m : Mark) → (is_some (pair_of_mark m) || is_acked m) ≡ not (is_free m)
marked Free = refl
marked (Out token wait) = refl
marked Acked = refl

-- one that is out or acked is taken
pub taken_either : (t : Option Task) → (is_some (pair_of t) || is_task_acked t) ≡ is_taken t
taken_either None = refl
taken_either (Some t) = marked t.mark

free_by : (m : Mark) (b : Bool) → (b && not (not (is_free m))) ≡ (b && is_free m)
free_by Free b = refl
free_by (Out token wait) b = refl
free_by Acked b = refl

-- one that is not taken is free
pub may_go_by : (t : Task) → (nat_lt t.deliveries MOST && not (is_taken (Some t))) ≡ may_go (Some t)
may_go_by t = free_by t.mark (nat_lt t.deliveries MOST)

-- ---- at a desk

pub no_broker : (d : Option OpenDesk) (s : State) → None ≡ option_map (λ (o : OpenDesk). o.desk.broker) d → gives_out d s ≡ false
no_broker None s e = refl
no_broker (Some o) s e = absurd (cc)

pub one_broker : (d : Option OpenDesk) (s : State) (b : Broker) → Some b ≡ option_map (λ (o : OpenDesk). o.desk.broker) d → gives_out d s ≡ gives_one b.tasks s.evals
one_broker None s b e = absurd (cc)
one_broker (Some o) s b e = let same : b ≡ o.desk.broker = cc in ap (λ (x : Broker). gives_one x.tasks s.evals) (sym same)
