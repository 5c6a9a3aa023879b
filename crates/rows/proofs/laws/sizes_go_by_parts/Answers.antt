use Rattle.rows.proofs.SizeLaws.{amount_by, size_by, fits_of, of_fits, amount_of_total}
use Rattle.rows.proofs.laws.sizes_go_by_parts.Goals as goal

pub returns : goal.returns
returns c = record {
  made = amount_by;
  same = size_by;
  fits = fits_of;
  parts = of_fits;
  sums = λ p zs. amount_of_total p (λ z. z) zs;
}
