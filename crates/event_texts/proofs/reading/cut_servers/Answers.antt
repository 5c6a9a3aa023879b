use Rattle.std.proofs.Common.{◌≡◌, ◌∙◌, ◌+◌, ◌++◌, ◌∷◌, ℕ, [], ap, arith, codes, get_or, inl, inr, refl, sym}
use Rattle.rows.specs.GroupSizes.{IsGroup}
use Rattle.event_texts.specs.Transcripts.{servers_line}
use Rattle.event_texts.proofs.Lines.{group_line, group_printable}
use Rattle.event_texts.proofs.reading.cut_servers.Goals as goal

-- the digit says which group it is
same_group : (m n : ℕ) → IsGroup n → codes "servers " ++ (48 + m) ∷ [] ≡ servers_line n → m ≡ n
same_group m n group is =
    let digits : 48 + m ≡ 48 + n = ap (λ text. get_or text 8 0) (is ∙ group_line n group) in
    omega arith

pub returns-in_err-line-clause-read : goal.returns-in_err-line-clause-read
returns-in_err-line-clause-read c n behind group is = absurd (c.in_err-line.ensures.first (servers_line n) behind (group_printable n group) is)

pub returns-in-text-clause-named : goal.returns-in-text-clause-named
returns-in-text-clause-named c =
    (inl refl, c.in_ok-line.ensures.parts ∙ ap (λ line. line ++ 10 ∷ c.in_ok-line.rest.now) (c.in-text.is ∙ sym (group_line 3 (inl refl))))

pub returns-in-text-clause-read : goal.returns-in-text-clause-read
returns-in-text-clause-read c n behind group is =
    let first = c.in_ok-line.ensures.first (servers_line n) behind (group_printable n group) is in
    (same_group 3 n group (sym c.in-text.is ∙ first.0), first.1)

pub returns-in-text-2-clause-named : goal.returns-in-text-2-clause-named
returns-in-text-2-clause-named c =
    (inr refl, c.in_ok-line.ensures.parts ∙ ap (λ line. line ++ 10 ∷ c.in_ok-line.rest.now) (c.in-text-2.is ∙ sym (group_line 5 (inr refl))))

pub returns-in-text-2-clause-read : goal.returns-in-text-2-clause-read
returns-in-text-2-clause-read c n behind group is =
    let first = c.in_ok-line.ensures.first (servers_line n) behind (group_printable n group) is in
    (same_group 5 n group (sym c.in-text-2.is ∙ first.0), first.1)

pub returns-in_default-clause-read : goal.returns-in_default-clause-read
returns-in_default-clause-read c n behind group is =
    let first = c.in_ok-line.ensures.first (servers_line n) behind (group_printable n group) is in
    go n group (first.0 ∙ group_line n group)
  where
    go : (n : ℕ) → IsGroup n → c.in_ok-line.line.now ≡ codes "servers " ++ (48 + n) ∷ [] → ⊥
    go n (inl three) line = c.in_default.not-text (rw three at line)
    go n (inr five) line = c.in_default.not-text-2 (rw five at line)
