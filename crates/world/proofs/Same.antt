-- A world in which nothing happened.
use Rattle.std.proofs.Common.{◌≡◌, ℕ, List, [], ◌∷◌, length, refl, sym, ◌∙◌, subst, slice_set}
use Rattle.std.specs.List.{AllZip}
use Rattle.machine_model.specs.MachineSpec.{MachineSpec}
use Rattle.raft_model.specs.Rafts.{Raft}
use Rattle.raft_model.specs.Worlds.{World, Run}
use Rattle.raft_core.specs.RaftView.{RaftView}
use Rattle.raft_core.specs.Frames.{FrameCarries}
use Rattle.raft_core.specs.Steps.{RefinesRaft}
use Rattle.raft_core.proofs.Fills.{same_fills}
use Rattle.raft_safety.specs.Claims.{IsGreatestCommit}
use Rattle.rows.specs.GroupSizes.{IsGroup}
use Rattle.world.specs.WorldView.{WorldView, RunsTo, Numbered, IsRaftWorld}
use Rattle.world.specs.Steps.{LeftServer, SameWorld}
use Rattle.world.proofs.Zips.{zip_length, zip_set, zip_from}

same_all : {S C : Type 0} (xs : List (RaftView S C)) → AllZip LeftServer xs xs
same_all [] = tt
same_all (x ∷ xs) = ((record { me = refl; size = refl; base = refl; server = refl }, λ h. h), same_all xs)

-- one server of a list is the same
pub same_set : {S C : Type 0} (xs : List (RaftView S C)) (i : ℕ) (x y : RaftView S C) → slice_set xs i x ≡ xs → LeftServer x y → AllZip LeftServer xs (slice_set xs i y)
same_set xs i x y here same = subst (λ l. AllZip LeftServer l (slice_set xs i y)) here (zip_set LeftServer xs xs i x y (same_all xs) same)

pub same_world : {S C : Type 0} (w : WorldView S C) → SameWorld w w
same_world w = record { servers = same_all w.servers; sent = refl; trace = refl; chain = refl }

module _ {S C : Type 0} (m : MachineSpec S C) where
  refines_on : (xs ys : List (RaftView S C)) (ss : List (Raft C)) → AllZip LeftServer xs ys → AllZip (RefinesRaft m) xs ss → AllZip (RefinesRaft m) ys ss
  refines_on [] [] ss same r = r
  refines_on [] (y ∷ ys) ss same r = absurd same
  refines_on (x ∷ xs) [] ss same r = absurd same
  refines_on (x ∷ xs) (y ∷ ys) [] same r = absurd r
  refines_on (x ∷ xs) (y ∷ ys) (s ∷ ss) same r = let one = same.0.0 in (same_fills m x y one s r.0, refines_on xs ys ss same.1 r.1)

  module _ (old new : WorldView S C) (same : SameWorld old new) where
    pub same_count : length new.servers ≡ length old.servers
    same_count = sym (zip_length LeftServer old.servers new.servers same.servers)

    pub same_runs : (past : List (World C)) (w : World C) → RunsTo m old past w → RunsTo m new past w
    same_runs past w r =
        let st = r.refines in
        record {
          run = subst (λ n. Run m n new.trace past w) (sym same_count) (subst (λ es. Run m (length old.servers) es past w) (sym same.trace) r.run);
          refines = record {
            servers = refines_on old.servers new.servers w.servers same.servers st.servers;
            sent = subst (λ fs. AllZip (FrameCarries m) fs w.sent) (sym same.sent) st.sent;
          };
          chain = subst (λ c. IsGreatestCommit past w c) (sym same.chain) r.chain;
        }

    same_numbered : Numbered old → Numbered new
    same_numbered numbered i h at =
        let x = zip_from LeftServer old.servers new.servers i h same.servers at in
        let one = x.2.0 in
        let n = numbered i x.0 x.1 in
        (one.me ∙ n.0, one.size ∙ n.1 ∙ sym same_count)

    pub same_reached : IsRaftWorld m old → IsRaftWorld m new
    same_reached r = record {
      past = r.past;
      world = r.world;
      runs = same_runs r.past r.world r.runs;
      numbered = same_numbered r.numbered;
      size = subst (λ n. IsGroup n) (sym same_count) r.size;
    }
