-- Why a run ends, of what is more than was read.
use Rattle.std.proofs.Common.{◌≡◌, ℕ, List, Option, None, Some, Result, Ok, Err, IfErr, IfOk, IfSome, OnOk, inl, inr, subst, sym}
use Rattle.sim_files.specs.Faults.{IsPastReading, MayStopReading}
use Rattle.sim_files.specs.Inner.Faults.{MayStopChecking}
use Rattle.sim_files.specs.Files.{IsGoodFile}
use Rattle.sim_files.specs.declared.fault.Fault.{Fault}
use Rattle.sim_files.specs.declared.fault.Fault.TheVariants.{BadScenario}

pub stops_reading : {P Q : Type 0} (fault : Fault) → (Q → P) → MayStopReading P fault → MayStopReading Q fault
stops_reading fault f (inl memory) = inl memory
stops_reading fault f (inr bad) = inr (bad.0, λ q. bad.1 (f q))

pub stops_checking : {P Q : Type 0} (fault : Fault) → (Q → P) → MayStopChecking P fault → MayStopChecking Q fault
stops_checking fault f (inl other) = inl other
stops_checking fault f (inr bad) = inr (bad.0, λ q. bad.1 (f q))

-- where it is what is read
pub past_reading : (P : Type 0) (fault : Fault) → P → MayStopReading P fault → IsPastReading fault
past_reading P fault is (inl memory) = subst IsPastReading (sym memory) tt
past_reading P fault is (inr bad) = absurd (bad.1 is)

-- ---- of a file that is read, the bytes of which are known

pub good_file : (file : Option (List ℕ)) (bytes : List ℕ) (r : Result ℕ Fault) → IfSome file (λ known. bytes ≡ known)
    → IfOk r (λ status. (status ≡ 0) × IsGoodFile bytes) → IfSome file (λ known. OnOk r (IsGoodFile known))
good_file None bytes r read good = tt
good_file (Some known) bytes (Ok status) read good = subst IsGoodFile read good.1
good_file (Some known) bytes (Err fault) read good = tt

none_good : (bytes known : List ℕ) (fault : Fault) → bytes ≡ known → MayStopChecking (IsGoodFile bytes) fault → fault ≡ BadScenario → ¬ IsGoodFile known
none_good bytes known fault read (inl (inl memory)) is good = absurd (cc)
none_good bytes known fault read (inl (inr output)) is good = absurd (cc)
none_good bytes known fault read (inr bad) is good = bad.1 (subst IsGoodFile (sym read) good)

pub bad_file : (file : Option (List ℕ)) (bytes : List ℕ) (r : Result ℕ Fault) → IfSome file (λ known. bytes ≡ known)
    → IfErr r (MayStopChecking (IsGoodFile bytes)) → IfSome file (λ known. IfErr r (λ fault. fault ≡ BadScenario → ¬ IsGoodFile known))
bad_file None bytes r read stops = tt
bad_file (Some known) bytes (Ok status) read stops = tt
bad_file (Some known) bytes (Err fault) read stops = none_good bytes known fault read stops
