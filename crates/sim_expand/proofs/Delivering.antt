-- Deliveries that a group takes, one behind the other.
use Rattle.std.proofs.Common.{◌≡◌, ◌≤◌, ◌+◌, ◌-◌, ◌++◌, ◌∷◌, ℕ, true, false, Option, Some, None, IfNone, IfSome, List, [], append_assoc, arith, inl, inr, length, length-append, map, refl, string_bytes, subst, sym}
use Rattle.std.specs.List.{All}
use Rattle.std.proofs.lemmas.List.{append-nil}
use Rattle.std.proofs.lemmas.List.Elements.{All-cons, All-nil}
use Rattle.group_model.specs.Worlds.{Deliver}
use Rattle.lossy_net.specs.Words.{Keystream}
use Rattle.rows.specs.declared.node.NodeSpec.{NodeSpec}
use Rattle.sim_play.specs.declared.play.Play.{Play}
use Rattle.sim_play.specs.Flight.{InFlight}
use Rattle.sim_play.specs.Flows.{MessageTaken}
use Rattle.sim_scenario.specs.declared.scenario.Settings.{Settings}
use Rattle.sim_scenario.specs.Steps.{AnEvent, IsLine}
use Rattle.sim_expand.specs.declared.expanding.Taken.{Taken}
use Rattle.sim_expand.specs.Counts.{IsFlow, IsNoFlow}
use Rattle.sim_expand.specs.Expanded.{AreDeliveries, LinesAt}
use Rattle.sim_expand.specs.Inner.Deliveries.{IsSent}
use Rattle.sim_expand.specs.Inner.Taking.{Delivers, StandsAsTaken, TakesMore, TakesThese, TakesUpTo}
use Rattle.sim_expand.specs.ShortSteps.{AsItStands}
use Rattle.sim_expand.proofs.Beside.{same_world, still_beside, with_net}
use Rattle.sim_expand.proofs.Flows.{event_no_flow}
use Rattle.sim_expand.proofs.Taking.{lines_now, these_and_these}

-- a delivery is no flow
pub delivery_no_flow : (place : ℕ) (line : List ℕ) → IsLine (AnEvent (Deliver place)) line → IsNoFlow line
delivery_no_flow place line is = subst IsNoFlow (sym is.1) (event_no_flow (Deliver place) is.0)

module _ (settings : Settings) (nodes : List NodeSpec) where
  deliveries_and_more : (before own others : List (List ℕ)) → AreDeliveries settings nodes before own → AreDeliveries settings nodes (before ++ own) others → AreDeliveries settings nodes before (own ++ others)
  deliveries_and_more before [] others are more = subst (λ b. AreDeliveries settings nodes b others) (append-nil before) more
  deliveries_and_more before (line ∷ own) others are more =
      (are.0, deliveries_and_more (before ++ line ∷ []) own others are.1 (subst (λ b. AreDeliveries settings nodes b others) (sym (append_assoc before (line ∷ []) own)) more))

  -- none of them is a flow
  pub deliveries_may : (before own : List (List ℕ)) → AreDeliveries settings nodes before own → All IsNoFlow own
  deliveries_may before [] are = All-nil IsNoFlow
  deliveries_may before (line ∷ own) are =
      All-cons IsNoFlow line own (delivery_no_flow are.0.place line are.0.comes) (deliveries_may (before ++ line ∷ []) own are.1)

pub none_delivered : (a b : Taken) → TakesThese a [] b → Delivers 0 a b
none_delivered a b these = ([], omega arith, tt, these)

-- another number of messages in flight, and words drawn
pub net_moves : (t : Taken) (play : Play) (f : InFlight) (w : Keystream) → StandsAsTaken t → t.behind ≡ true → play ≡ with_net t.play f w → Delivers 0 t (record t { play = play })
net_moves t play f w stands behind is = none_delivered t (record t { play = play }) (record {
  more = record {
    settings = refl;
    nodes = refl;
    lines = sym (append-nil (map string_bytes t.lines.items));
    stands = record {
      other = stands.other;
      led = stands.led;
      beside = rw behind (still_beside t.behind stands.other t.play f w play stands.beside is);
      few = stands.few;
    };
  };
  behind = refl;
})

-- the next message in flight is taken, or there is none
pub message_moves : (r : Option ℕ) (t : Taken) (play : Play) → StandsAsTaken t → t.behind ≡ true → IfSome r (λ message. MessageTaken t.play message play) → IfNone r (play ≡ t.play) → Delivers 0 t (record t { play = play })
message_moves (Some message) t play stands behind taken left = net_moves t play _ _ stands behind taken.rest
message_moves None t play stands behind taken left = net_moves t play t.play.flight t.play.fates stands behind left

pub delivered_and_more : (m n : ℕ) (a b c : Taken) → Delivers m a b → Delivers n b c → Delivers (m + n) a c
delivered_and_more m n a b c first next =
    let more = first.3.more in
    let others = rw (more.settings, more.nodes, more.lines) at next.2 in (
      first.0 ++ next.0,
      omega (arith, length-append first.0 next.0, first.1, next.1),
      deliveries_and_more a.settings a.nodes.now (map string_bytes a.lines.items) first.0 next.0 first.2 others,
      these_and_these a b c first.0 next.0 first.3 next.3,
    )

pub delivers_more : (m n : ℕ) (a b : Taken) → m ≤ n → Delivers m a b → Delivers n a b
delivers_more m n a b within some = (some.0, omega (arith, within, some.1), some.2, some.3)

pub delivers_stands : (m : ℕ) (a b : Taken) → Delivers m a b → StandsAsTaken b
delivers_stands m a b some = some.3.more.stands

pub delivers_reached : (m : ℕ) (a b : Taken) → Delivers m a b → length b.lines.items ≤ length a.lines.items + m
delivers_reached m a b some = omega (arith, some.1, lines_now some.0 a b some.3.more)

-- lines that may stand behind a `settle elect`
pub delivers_some : (m : ℕ) (a b : Taken) → a.behind ≡ true → Delivers m a b → TakesUpTo m a b
delivers_some m a b behind some = (some.0, some.1, rw behind (deliveries_may a.settings a.nodes.now (map string_bytes a.lines.items) some.0 some.2), some.3)

-- one message comes that was sent
pub one_delivery : (a b : Taken) (message : ℕ) (line : List ℕ) → StandsAsTaken a → IsSent a.play.world message → IsLine (AnEvent (Deliver (message - 1))) line → TakesThese a (line ∷ []) b → Delivers 1 a b
one_delivery a b message line stands sent comes these =
    let world = same_world a.behind stands.other a.play stands.beside in
    let sent = rw world at sent in
    (line ∷ [], omega arith, (record { play = stands.other; stands = stands.led; place = message - 1; sent = omega (arith, sent.0, sent.1); comes = comes }, tt), these)

-- behind a `settle elect`, where other messages are in flight
pub elect_taken : (a b : Taken) (own : List (List ℕ)) (play : Play) (f : InFlight) → TakesThese a own b → play ≡ record b.play { flight = f } → TakesMore a own (record b { behind = true; play = play })
elect_taken a b own play f these is =
    let more = these.more in
    let stands = more.stands in
    record {
      settings = more.settings;
      nodes = more.nodes;
      lines = more.lines;
      stands = record {
        other = stands.other;
        led = stands.led;
        beside = still_beside b.behind stands.other b.play f b.play.fates play stands.beside is;
        few = stands.few;
      };
    }

-- what a line comes to that is taken as it stands
module _ (a b : Taken) (line : List ℕ) where
  abbrev TakesAsItStands : Type 0
  TakesAsItStands = (own : List (List ℕ)) × LinesAt a.settings a.nodes.now a.behind (map string_bytes a.lines.items) (AsItStands line) own × TakesThese a own b

  pub line_before : a.behind ≡ false → TakesThese a (line ∷ []) b → TakesAsItStands
  line_before before these = (line ∷ [], rw before refl, these)

  pub line_behind : a.behind ≡ true → IsNoFlow line → TakesThese a (line ∷ []) b → TakesAsItStands
  line_behind after other these = (line ∷ [], rw after (inr (other, refl)), these)

  pub flow_behind : (most : ℕ) → a.behind ≡ true → IsFlow line most → Delivers most a b → TakesAsItStands
  flow_behind most after is some = (some.0, rw after (inl (most, is, some.1, some.2)), some.3)
