-- `psi_reached`: the last value answers with no look; else the search keeps the row whose division is the answer (`held`), and its looks are laid into the lent list.
use Rattle.std.specs.Prelude.{ℕ, ◌*◌}
use Rattle.std.proofs.Common.{ap, ◌∙◌, arith}
use Rattle.rows.specs.Limits.{last_kelvin}
use Rattle.air.specs.inner.Search.{psi_fits}
use Rattle.air.proofs.PsiSearch.{psi_figure, last_searched, row_found, held, searched}
use Rattle.air.proofs.search.psi_reached.Goals as goal

pub returns-then-target-figure : goal.returns-then-target-figure
returns-then-target-figure c =
    last_searched _ _ _ (c.if-target-figure.true ∙ ap (λ (n : ℕ). 1000 * n) (psi_figure last_kelvin c.requires.0 c.figure.ensures.0)) c.lay.ensures

pub figure-requires-2 : goal.figure-requires-2
figure-requires-2 c =
    let h = held c.requires.0 c.requires.2 c.requires.3 c.figure.ensures.0 c.if-target-figure.false (c.halve-row.ensures (psi_fits c.args.target) (record { as_p = λ k b l u e. e })) in
    (h.kept.least, omega (arith, h.kept.most))

pub overflow_add-row : goal.overflow_add-row
overflow_add-row c =
    let h = held c.requires.0 c.requires.2 c.requires.3 c.figure.ensures.0 c.if-target-figure.false (c.halve-row.ensures (psi_fits c.args.target) (record { as_p = λ k b l u e. e })) in
    omega (arith, h.kept.most)

pub figure-requires-3 : goal.figure-requires-3
figure-requires-3 c =
    let h = held c.requires.0 c.requires.2 c.requires.3 c.figure.ensures.0 c.if-target-figure.false (c.halve-row.ensures (psi_fits c.args.target) (record { as_p = λ k b l u e. e })) in
    (omega (arith, h.kept.least), omega (arith, h.kept.most))

pub divide-requires : goal.divide-requires
divide-requires c =
    let k = c.halve-row.ensures (psi_fits c.args.target) (record { as_p = λ k b l u e. e }) in
    let h = held c.requires.0 c.requires.2 c.requires.3 c.figure.ensures.0 c.if-target-figure.false k in
    row_found c.args.target c.requires.2 h.below _ _ _ k.row_is (psi_figure _ c.requires.0 c.figure-2.ensures.0) (psi_figure _ c.requires.0 c.figure-3.ensures.0)

pub returns : goal.returns
returns c =
    let k = c.halve-row.ensures (psi_fits c.args.target) (record { as_p = λ k b l u e. e }) in
    let h = held c.requires.0 c.requires.2 c.requires.3 c.figure.ensures.0 c.if-target-figure.false k in
    searched c.args.target c.requires.2 h.below k c.lay-2.ensures c.divide.ensures
