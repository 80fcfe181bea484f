-- The contracts are tight: two results, and two buffers afterwards, that an operation allows for one input are equal.
use mathlib.Core.Path.{◌≡◌, sym, ap, ◌∙◌}
use mathlib.Core.List.{List}
use Prim.Native.Nat.{ℕ}
use lib.IntN.{ℤ}
use Rattle.std.specs.Prelude.{Result, Ok, Err}
use Rattle.writing.specs.declared.NoRoom.{NoRoom}
use Rattle.writing.specs.Put.{Puts}
use Rattle.std.specs.declared.cmp.Ordering.{Ordering}
use Rattle.meaning.specs.Decimal.{Decimal}
use Rattle.meaning.specs.Layout.{bytes_of, encode}
use Rattle.meaning.specs.Reading.{Located, accepted_as, refused_at}
use Rattle.reading.specs.declared.answer.Refused.{Refused}
use Rattle.reading.specs.Told.{named}
use Rattle.reading.proofs.Names.{called, called-named}
use Rattle.decimal128.specs.declared.MalformedBytes.{MalformedBytes}
use Rattle.decimal128.specs.declared.NotOrdered.{NotOrdered}
use Rattle.decimal128.specs.declared.Decimal128.{Decimal128}
use Rattle.decimal128.specs.Operations.{FromBytesAllows, BytesAllows, ParseAllows, ReadAllows, WriteAllows, DebugAllows, RecordAllows, CompareAllows, ReadGives, ParseGives, PutGives, CompareGives}

-- ---- one result

pub from_bytes_is_tight : (bytes : List ℕ) (r q : Decimal128) → FromBytesAllows bytes r → FromBytesAllows bytes q → r ≡ q
from_bytes_is_tight bytes r q e f = e ∙ sym f

pub bytes_is_tight : (v : Decimal128) (r q : List ℕ) → BytesAllows v r → BytesAllows v q → r ≡ q
bytes_is_tight v r q e f = e ∙ sym f

pub parse_is_tight : (s : List ℕ) (r q : Result Decimal128 MalformedBytes) → ParseAllows s r → ParseAllows s q → r ≡ q
parse_is_tight s r q e f = e ∙ sym f

pub compare_is_tight : (a b : List ℕ) (r q : Result Ordering NotOrdered) → CompareAllows a b r → CompareAllows a b q → r ≡ q
compare_is_tight a b r q e f = e ∙ sym f

-- ---- a reading

refusal_same : (d e : Refused) → refused_at (named d.refusal) d.place ≡ refused_at (named e.refusal) e.place → d ≡ e
refusal_same d e p =
    let names : named d.refusal ≡ named e.refusal = (let k = ap (λ (l : Located). l.reading) p in cc) in
    let refusal : d.refusal ≡ e.refusal = sym (called-named d.refusal) ∙ ap called names ∙ called-named e.refusal in
    let place : d.place ≡ e.place = ap (λ (l : Located). l.place) p in
    rw (refusal, place)

value_same : (v w : Decimal) → accepted_as v ≡ accepted_as w → v ≡ w
value_same v w p = let k = ap (λ (l : Located). l.reading) p in cc

pub read_is_tight : (text : List ℕ) (r q : Result Decimal128 Refused) → ReadAllows text r → ReadAllows text q → r ≡ q
read_is_tight text (Ok d) (Ok e) p q =
    let same = value_same _ _ (sym p.1 ∙ q.1) in
    ap Ok (bytes_same d e (p.2 ∙ ap (λ (v : Decimal). bytes_of 16 (encode v)) same ∙ sym q.2))
  where
    bytes_same : (d e : Decimal128) → d.bytes ≡ e.bytes → d ≡ e
    bytes_same d e h = rw h
read_is_tight text (Ok d) (Err e) p q = absurd (let k = ap (λ (l : Located). l.reading) (sym p.1 ∙ q) in cc)
read_is_tight text (Err d) (Ok e) p q = absurd (let k = ap (λ (l : Located). l.reading) (sym p ∙ q.1) in cc)
read_is_tight text (Err d) (Err e) p q = ap Err (refusal_same d e (sym p ∙ q))

-- ---- a result and a buffer

puts_is_tight : {t b a z : List ℕ} {r q : Result ℕ NoRoom} → Puts t b r a → Puts t b q z → (r ≡ q) × (a ≡ z)
puts_is_tight k l = (k.answer ∙ sym l.answer, k.buffer ∙ sym l.buffer)

module _ (input before : List ℕ) (r q : Result ℕ NoRoom) (a z : List ℕ) where
  pub write_is_tight : WriteAllows input before r a → WriteAllows input before q z → (r ≡ q) × (a ≡ z)
  write_is_tight k l = puts_is_tight k l

  pub debug_is_tight : DebugAllows input before r a → DebugAllows input before q z → (r ≡ q) × (a ≡ z)
  debug_is_tight k l = puts_is_tight k l

  pub record_is_tight : RecordAllows input before r a → RecordAllows input before q z → (r ≡ q) × (a ≡ z)
  record_is_tight k l = puts_is_tight k l

-- ---- for C: the number, and what stands behind each pointer; a and z are what out holds, or buf, m and n what *place or *len is

pub c_read_is_tight : (text : List ℕ) (r q : ℕ) (a z : List ℕ) (m n : ℕ) → ReadGives text r a m → ReadGives text q z n → (r ≡ q) × (a ≡ z) × (m ≡ n)
c_read_is_tight text r q a z m n k l = (k.is ∙ sym l.is, k.bytes ∙ sym l.bytes, k.at ∙ sym l.at)

pub c_parse_is_tight : (s : List ℕ) (r q : ℕ) (a z : List ℕ) → ParseGives s r a → ParseGives s q z → (r ≡ q) × (a ≡ z)
c_parse_is_tight s r q a z k l = (k.is ∙ sym l.is, k.bytes ∙ sym l.bytes)

-- decimal128_write and decimal128_debug: text is what they put
pub c_put_is_tight : (text before : List ℕ) (r q m n : ℕ) (a z : List ℕ) → PutGives text before r m a → PutGives text before q n z → (r ≡ q) × (m ≡ n) × (a ≡ z)
c_put_is_tight text before r q m n a z k l = (k.is ∙ sym l.is, k.length ∙ sym l.length, k.buffer ∙ sym l.buffer)

pub c_compare_is_tight : (a b : List ℕ) (r q : ℕ) (i j : ℤ) → CompareGives a b r i → CompareGives a b q j → (r ≡ q) × (i ≡ j)
c_compare_is_tight a b r q i j k l = (k.is ∙ sym l.is, k.at ∙ sym l.at)
