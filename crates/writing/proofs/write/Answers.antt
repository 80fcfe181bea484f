use native.Mathlib.Omega.{arith}
use Rattle.meaning.specs.Reading.{bytes}
use Rattle.writing.specs.Put.{put_of}
use Rattle.writing.proofs.Values.{text_nan, text_infinity, text_finite, finite_range, finite_sized}
use Rattle.writing.proofs.write.Goals as goal

pub invariant_of-c : goal.invariant_of-c
invariant_of-c c = record { sized = finite_sized c.args.u c.in-Finite.is }

pub finite-requires : goal.finite-requires
finite-requires c = finite_range c.args.u c.in-Finite.is

pub returns-in-Nan : goal.returns-in-Nan
returns-in-Nan c =
    let p = c.known.ensures in
    unfold bytes put_of in rw (text_nan c.args.u _ c.in-Nan.is) (record { value = grind (arith, p.answer); buf_after = p.buffer })

pub returns-in-Infinity : goal.returns-in-Infinity
returns-in-Infinity c =
    let p = c.known-in-Infinity.ensures in
    unfold bytes in rw (text_infinity c.args.u c.in-Infinity.is) (record { value = p.answer; buf_after = p.buffer })

pub returns-in-Finite : goal.returns-in-Finite
returns-in-Finite c =
    let p = c.finite.ensures in
    rw (text_finite c.args.u c.in-Finite.is) (record { value = p.answer; buf_after = p.buffer })
