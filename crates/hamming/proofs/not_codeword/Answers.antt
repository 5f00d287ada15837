-- `hamming::not_codeword` meets its contract: each odd byte is one of the word's five parities. Assumes nothing.
use mathlib.Core.Path.{ap₂, ◌∙◌}
use Prim.Native.Nat.{◌+◌, ◌*◌}
use native.Mathlib.Omega.{arith}
use lib.Bits.{bit_or}
use lib.Dec.{lit<}
use Rattle.hamming.proofs.Bytes.{parity-bytes, parity-whole, any-odd}
use Rattle.hamming.proofs.not_codeword.Goals as goal

pub returns : goal.returns
returns c =
    let s = c in
    let high = s.args.high in
    let low = s.args.low in
    let hh = s.ranges.high.fits in
    let hl = s.ranges.low.fits in
    ap₂ bit_or
    (ap₂ bit_or
    (ap₂ bit_or
    (ap₂ bit_or
    (c.odd_byte.ensures ∙ parity-whole high low hh hl)
    (c.odd_byte-2.ensures ∙ parity-bytes high low hh hl 0x47 0xF0 (lit< tt) (lit< tt)))
    (c.odd_byte-3.ensures ∙ parity-bytes high low hh hl 0x27 0x8E (lit< tt) (lit< tt)))
    (c.odd_byte-4.ensures ∙ parity-bytes high low hh hl 0x16 0x6D (lit< tt) (lit< tt)))
    (c.odd_byte-5.ensures ∙ parity-bytes high low hh hl 0x0D 0x5B (lit< tt) (lit< tt))
    ∙ any-odd (high * 256 + low) (omega arith)
