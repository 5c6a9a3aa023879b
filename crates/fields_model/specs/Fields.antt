-- The fields: numbers of 1, 2, 4 and 8 bytes, terms and places, servers and actors, and flags.
use Rattle.std.specs.Prelude.{ℕ, ◌+◌, ◌-◌, ◌^◌, Option, Bool, true, false, nat_eq, nat_lt, Some, None, if◌then◌else◌}
use Rattle.fields_model.specs.Format.{Format, number, made, coded}
use Rattle.rows.specs.declared.actor.Actor.{Actor}
use Rattle.rows.specs.declared.actor.Actor.TheVariants.{Server, Client}

-- a number of 1, 2, 4 or 8 bytes: any that these hold
abbrev pub byte : Format ℕ
byte = number 1 0 256

abbrev pub u16 : Format ℕ
u16 = number 2 0 (2 ^ 16)

abbrev pub u32 : Format ℕ
u32 = number 4 0 (2 ^ 32)

abbrev pub u64 : Format ℕ
u64 = number 8 0 (2 ^ 64)

-- a term, and a place in the log: 8 bytes, of which the first three are 0
abbrev pub term : Format ℕ
term = number 8 0 (2 ^ 40)

abbrev pub index : Format ℕ
index = number 8 0 (2 ^ 40)

-- one byte from 1 to 5: the number of a server is its place plus one
abbrev pub server : Format ℕ
server = made (λ n. n - 1) (λ place. place + 1) (number 1 1 6)

-- one byte: 0 for false and 1 for true
abbrev pub bool_of : ℕ → Bool
bool_of n = nat_eq n 1

abbrev pub code_of_bool : Bool → ℕ
code_of_bool true = 1
code_of_bool false = 0

abbrev pub bool : Format Bool
bool = coded (λ n. Some (bool_of n)) code_of_bool (number 1 0 2)

-- one byte: 1 to 5 for a server, and 129 to 192, which is 128 more than its number, for a client
abbrev pub actor_of : ℕ → Option Actor
actor_of n =
    if nat_lt n 1 then None
    else if nat_lt n 6 then Some (Server (n - 1))
    else if nat_lt n 129 then None
    else if nat_lt n 193 then Some (Client (n - 128))
    else None

abbrev pub code_of_actor : Actor → ℕ
code_of_actor (Server place) = place + 1
code_of_actor (Client number) = 128 + number

abbrev pub actor : Format Actor
actor = coded actor_of code_of_actor byte
