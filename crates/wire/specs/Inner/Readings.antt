-- What the readers of bodies answer.
use Rattle.std.specs.Prelude.{◌≡◌, ℕ, ◌+◌, List, length, Result, Ok, Err, true, nat_eq, if◌then◌else◌}
use Rattle.rows.specs.declared.refusal.Refusal.{Refusal}
use Rattle.fields_model.specs.Format.{Reading, ◌>>=◌, Refuses}
use Rattle.machine_model.specs.MachineSpec.{MachineSpec}
use Rattle.wire.specs.declared.body.Body.{Body}
use Rattle.wire.specs.Frames.{agrees}

-- what was read, where it ends with the bytes; else the first byte left over is at fault
abbrev pub ended : {A : Type 0} → List ℕ → Reading A → Result A ℕ
ended bytes reading = reading >>= λ a. if nat_eq a.1 (length bytes) then Ok a.0 else Err a.1

-- the same of a body, which must agree; else its state is at fault, behind three numbers
abbrev pub finished : {S C : Type 0} → MachineSpec S C → List ℕ → ℕ → Reading (Body S C) → Result (Body S C) ℕ
finished spec bytes at reading = ended bytes reading >>= λ b. if agrees spec b then Ok b else Err (at + 24)

-- What a reader of a body at a place answers, as a value that stands for a body. The reader of an
-- Install looks at all that is left, so where one refuses, the fault is the first of all that are
-- asked of the body; the first fact says whether memory may be lacking.
abbrev pub AnswersBody : {S C B : Type 0} → MachineSpec S C → Type 0 → (B → Body S C) → List ℕ → ℕ → Result (B × ℕ) Refusal → Reading (Body S C) → Type 0
AnswersBody spec MayEndOutOfMemory body_of bytes at (Ok read) reading =
    (reading ≡ Ok (body_of read.0, read.1)) × (agrees spec (body_of read.0) ≡ true)
AnswersBody spec MayEndOutOfMemory body_of bytes at (Err cause) reading = Refuses MayEndOutOfMemory cause (finished spec bytes at reading)
