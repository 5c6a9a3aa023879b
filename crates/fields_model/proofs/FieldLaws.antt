-- The laws of the fields.
use Rattle.std.proofs.Common.{◌≡◌, ℕ, zero, suc, ◌+◌, ◌-◌, Bool, true, false, Some, refl, ap, sym, ◌∙◌, arith, inl, inr}
use Rattle.std.proofs.lemmas.Bool.{cases_lt, lt-ltb, le-ltb}
use Rattle.rows.specs.declared.actor.Actor.{Actor}
use Rattle.rows.specs.declared.actor.Actor.TheVariants.{Server, Client}
use Rattle.fields_model.specs.Format.{number, Lawful}
use Rattle.fields_model.specs.Fields.{term, index, server, byte, u16, u32, u64, bool, bool_of, code_of_bool, actor, actor_of, code_of_actor}
use Rattle.fields_model.proofs.FormatLaws.{number_lawful, flag_lawful, made_lawful, coded_lawful}

pub byte_lawful : Lawful byte
byte_lawful = number_lawful 1 0 256 (omega arith) (omega arith)

pub u16_lawful : Lawful u16
u16_lawful = number_lawful 2 0 _ (omega arith) (omega arith)

pub u32_lawful : Lawful u32
u32_lawful = number_lawful 4 0 _ (omega arith) (omega arith)

pub u64_lawful : Lawful u64
u64_lawful = number_lawful 8 0 _ (omega arith) (omega arith)

pub term_lawful : Lawful term
term_lawful = number_lawful 8 0 _ (omega arith) (omega arith)

pub index_lawful : Lawful index
index_lawful = number_lawful 8 0 _ (omega arith) (omega arith)

pub server_lawful : Lawful server
server_lawful = made_lawful (λ n. n - 1) (λ place. place + 1) (number 1 1 6) (λ place. omega arith) (λ n fits. omega (arith, fits.0)) (number_lawful 1 1 6 (omega arith) (omega arith))

-- a flag that is read has the byte that it is read from
code_again : (a : ℕ) (b : Bool) → (number 1 0 2).Fits a → Some (bool_of a) ≡ Some b → code_of_bool b ≡ a
code_again zero true fits e = absurd cc
code_again zero false fits e = refl
code_again (suc zero) true fits e = refl
code_again (suc zero) false fits e = absurd cc
code_again (suc (suc a)) b fits e = absurd (omega (arith, fits.1))

pub bool_lawful : Lawful bool
bool_lawful = coded_lawful (λ n. Some (bool_of n)) code_of_bool (number 1 0 2) code_again flag_lawful

-- one option has one value
some_is : (a b : Actor) → Some a ≡ Some b → a ≡ b
some_is a b e = cc

-- an actor that is read has the byte that it is read from
actor_again : (n : ℕ) (a : Actor) → byte.Fits n → actor_of n ≡ Some a → code_of_actor a ≡ n
actor_again n a fits e = elim (cases_lt n 1) [
  | inl one ↦ let f = rw (lt-ltb _ _ one) at e in absurd cc
  | inr one ↦ elim (cases_lt n 6) [
    | inl six ↦ let f = rw (le-ltb _ _ one, lt-ltb _ _ six) at e in ap code_of_actor (sym (some_is (Server (n - 1)) a f)) ∙ omega arith
    | inr six ↦ elim (cases_lt n 129) [
      | inl gap ↦ let f = rw (le-ltb _ _ one, le-ltb _ _ six, lt-ltb _ _ gap) at e in absurd cc
      | inr gap ↦ elim (cases_lt n 193) [
        | inl top ↦ let f = rw (le-ltb _ _ one, le-ltb _ _ six, le-ltb _ _ gap, lt-ltb _ _ top) at e in ap code_of_actor (sym (some_is (Client (n - 128)) a f)) ∙ omega arith
        | inr top ↦ let f = rw (le-ltb _ _ one, le-ltb _ _ six, le-ltb _ _ gap, le-ltb _ _ top) at e in absurd cc
      ]
    ]
  ]
]

pub actor_lawful : Lawful actor
actor_lawful = coded_lawful actor_of code_of_actor byte actor_again byte_lawful
