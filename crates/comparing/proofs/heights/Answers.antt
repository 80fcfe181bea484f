use native.Mathlib.Omega.{arith}
use borrow.Author.Rules.{rules}
use Rattle.comparing.proofs.Orders.{height_fits, height_less, height_greater}
use Rattle.comparing.proofs.heights.Goals as goal

pub overflow_add-first : goal.overflow_add-first
overflow_add-first c =
    let p = c.requires in record { fits = height_fits _ _ _ (search rules) p.0.0 p.0.1 }

pub overflow_add-second : goal.overflow_add-second
overflow_add-second c =
    let p = c.requires in record { fits = height_fits _ _ _ (search rules) p.1.0 p.1.1 }

pub returns-then-not-is_zero : goal.returns-then-not-is_zero
returns-then-not-is_zero c = grind (arith, height_less)

pub returns-then-not-is_zero-2 : goal.returns-then-not-is_zero-2
returns-then-not-is_zero-2 c = grind (arith, height_greater)
