-- What holds of a call at all holds where memory is wanting.
use Rattle.std.specs.Prelude.{Err, Ok, OnErr, Result}

pub if_wanting : {A E P : Type 0} (r : Result A E) → P → OnErr r P
if_wanting (Ok x) holds = tt
if_wanting (Err e) holds = holds
