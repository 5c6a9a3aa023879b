-- What a name holds is its bytes and the zeros behind them.
use Rattle.std.proofs.Common.{◌≡◌, ℕ, ◌-◌, ◌≤◌, List, ◌++◌, length, take, drop, replicate, arith}
use Rattle.std.proofs.lemmas.List.{take-append-drop, length-take-le}

pub size_back : (size : ℕ) (bytes : List ℕ) → length bytes ≡ 32 → size ≤ 32 → length (take size bytes) ≡ size
size_back size bytes full le = length-take-le size bytes (omega (arith, full, le))

pub bytes_back : (size : ℕ) (bytes : List ℕ) → length bytes ≡ 32 → size ≤ 32 → drop size bytes ≡ replicate (32 - size) 0
    → take size bytes ++ replicate (32 - length (take size bytes)) 0 ≡ bytes
bytes_back size bytes full le zeros =
    let n = size_back size bytes full le in
    rw (n, ← zeros) (take-append-drop size bytes)
