-- Rows are put below each other one by one.
use Rattle.std.proofs.Common.{◌≡◌, ◌∙◌, ◌⊎◌, inl, inr, ℕ, zero, suc, ◌+◌, ◌<◌, ◌≤◌, List, [], ◌∷◌, ◌++◌, max, length, get_or, refl, sym, ap, subst, arith}
use Rattle.std.proofs.lemmas.Bool.{cases_eq}
use Rattle.std.proofs.lemmas.List.{get_or_append_left, length_push}
use Rattle.sim_draw.specs.declared.layout.Fan.{Fan}
use Rattle.sim_draw.specs.Inner.Fans.{no_fan}
use Rattle.sim_draw.specs.declared.layout.Layout.{Layout}
use Rattle.sim_draw.specs.declared.record.Record.{Record}
use Rattle.sim_draw.specs.declared.record.Sending.{Sending}
use Rattle.sim_draw.specs.Inner.Layouts.{AreFans, RowsFollow, RowsHold, top_below, row_end, end_before}

-- the rows put down so far
pub record Follow (fans : List Fan) (tops : List ℕ) (end row : ℕ) : Type 0 where
  pub each : length tops ≡ row
  pub begin : (k : ℕ) → k < row → get_or tops k 0 ≡ top_below (end_before fans tops k) k
  pub ends : end ≡ end_before fans tops row

still : (fans : List Fan) (tops : List ℕ) (top k : ℕ) → k ≤ length tops → end_before fans (tops ++ top ∷ []) k ≡ end_before fans tops k
still fans tops top zero le = refl
still fans tops top (suc k) le = ap (λ y. row_end y (get_or fans k no_fan)) (get_or_append_left tops (top ∷ []) 0 k (omega (arith, le)))

last_of : (tops : List ℕ) (top k : ℕ) → k ≡ length tops → get_or (tops ++ top ∷ []) k 0 ≡ top
last_of [] top zero e = refl
last_of [] top (suc k) e = absurd (omega (arith, e))
last_of (x ∷ tops) top zero e = absurd (omega (arith, e))
last_of (x ∷ tops) top (suc k) e = last_of tops top k (omega (arith, e))

begins : (fans : List Fan) (tops : List ℕ) (end row top : ℕ) → Follow fans tops end row → top ≡ top_below end row → (k : ℕ) → k < row + 1 →
    (k ≡ row) ⊎ (k ≡ row → ⊥) → get_or (tops ++ top ∷ []) k 0 ≡ top_below (end_before fans (tops ++ top ∷ []) k) k
begins fans tops end row top so is k lt (inl e) =
    last_of tops top k (e ∙ sym so.each)
    ∙ is
    ∙ ap (λ y. top_below y row) so.ends
    ∙ ap (λ r. top_below (end_before fans tops r) r) (sym e)
    ∙ ap (λ y. top_below y k) (sym (still fans tops top k (omega (arith, e, so.each))))
begins fans tops end row top so is k lt (inr ne) =
    get_or_append_left tops (top ∷ []) 0 k (omega (arith, lt, ne, so.each))
    ∙ so.begin k (omega (arith, lt, ne))
    ∙ ap (λ y. top_below y k) (sym (still fans tops top k (omega (arith, lt, so.each))))

pub follow_more : (fans : List Fan) (tops new : List ℕ) (end row top next : ℕ) (fan : Fan) → Follow fans tops end row → top ≡ top_below end row →
    new ≡ tops ++ top ∷ [] → get_or fans row no_fan ≡ fan → next ≡ row_end top fan → Follow fans new next (row + 1)
follow_more fans tops new end row top next fan so is more at below =
    let plus : row + 1 ≡ suc row = omega arith in
    rw more record {
      each = length_push tops top ∙ ap (λ k. k + 1) so.each;
      begin = λ k lt. begins fans tops end row top so is k lt (cases_eq k row);
      ends = below
          ∙ ap (row_end top) (sym at)
          ∙ ap (λ y. row_end y (get_or fans row no_fan)) (sym (last_of tops top row (sym so.each)))
          ∙ ap (end_before fans (tops ++ top ∷ [])) (sym plus);
    }

-- the layout of what is noted, of what its parts answered
pub rows_hold : (run : Record) (layout : Layout) (fans others : List Fan) (end events : ℕ) (sendings : List Sending) →
    AreFans events sendings fans → RowsFollow others layout.tops.items end →
    events ≡ length run.steps.items → sendings ≡ run.sendings.items → others ≡ fans → layout.bottom ≡ max end 140 → RowsHold run layout
rows_hold run layout fans others end events sendings losses rows steps sent same bottom = record {
  fans = fans;
  losses = subst (λ n. AreFans n run.sendings.items fans) steps (subst (λ xs. AreFans events xs fans) sent losses);
  end = end;
  rows = subst (λ fs. RowsFollow fs layout.tops.items end) same rows;
  bottom = bottom;
}
