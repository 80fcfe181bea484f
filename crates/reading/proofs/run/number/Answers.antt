use mathlib.Core.Logic.{◌⊎◌, inl, inr, ⊎_elim}
use mathlib.Core.Path.{◌∙◌}
use Prim.Native.Nat.{ℕ, ◌+◌, ◌≤◌, ◌<◌}
use native.Mathlib.Omega.{arith}
use Rattle.reading.proofs.Bytes.{take-slice}
use Rattle.reading.proofs.Rows.{run-whole, row-whole, row_before, row-behind, row-both}
use Rattle.reading.proofs.run.number.Goals as goal

-- the point does not stand in the run
apart : {i p t : ℕ} → ((i ≤ p × t ≤ p) ⊎ (p < i)) → (p < i) ⊎ (t ≤ p)
apart h = ⊎_elim (λ k. inr k.1) (λ k. inl k) h

pub push_row-before-requires : goal.push_row-before-requires
push_row-before-requires c =
    rw (take-slice _ _ _ c.if-from-point.true) (row_before _ _ _ _ c.requires.within c.requires.digits c.requires.few c.if-from-point.true c.if-point-to.true)

pub push_row-requires : goal.push_row-requires
push_row-requires c =
    rw (c.push_row-before.ensures, take-slice _ _ _ c.if-from-point.true, take-slice (c.args.scan.now.found.point + 1) c.args.to c.args.scan.now.text.now (omega arith))
    (row-behind _ _ _ _ c.requires.within c.requires.digits c.requires.few c.if-from-point.true c.if-point-to.true)

pub push_row-requires-else-from-point : goal.push_row-requires-else-from-point
push_row-requires-else-from-point c =
    rw (take-slice _ _ _ c.requires.within.0) (row-whole _ _ _ _ c.requires.within c.requires.digits c.requires.few (apart c.else-from-point.either))

pub returns-then-point-to : goal.returns-then-point-to
returns-then-point-to c =
    c.push_row.ensures
    ∙ rw (c.push_row-before.ensures, take-slice _ _ _ c.if-from-point.true, take-slice (c.args.scan.now.found.point + 1) c.args.to c.args.scan.now.text.now (omega arith))
    (row-both _ _ _ _ c.requires.within c.requires.digits c.requires.few c.if-from-point.true c.if-point-to.true)

pub returns-else-from-point : goal.returns-else-from-point
returns-else-from-point c =
    c.push_row-else-from-point.ensures
    ∙ rw (take-slice _ _ _ c.requires.within.0, ← run-whole _ _ _ _ c.requires.within c.requires.digits c.requires.few (apart c.else-from-point.either))
