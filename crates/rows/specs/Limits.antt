-- How many rows each table holds at most.
use Rattle.std.specs.Prelude.{ℕ}

abbrev pub most_jobs : ℕ
most_jobs = 256

abbrev pub most_nodes : ℕ
most_nodes = 64

abbrev pub most_evals : ℕ
most_evals = 65536

abbrev pub most_allocs : ℕ
most_allocs = 65536
