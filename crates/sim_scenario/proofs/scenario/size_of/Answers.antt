use Rattle.std.proofs.Common.{◌≡◌, None, rules}
use Rattle.sim_scenario.proofs.scenario.size_of.Goals as goal

pub returns-in_err-disk : goal.returns-in_err-disk
returns-in_err-disk c =
    let none : c.from_residual-in_err-disk.result ≡ None = search rules in
    rw none (λ z is. c.in_err-disk.ensures z.disk is.fits.2 is.disk)
