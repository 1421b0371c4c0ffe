-- One byte more, which is ASCII.
use Rattle.std.proofs.Common.{◌<◌, drop, length, sym, ap, subst, arith, rules}
use Rattle.std.proofs.lemmas.List.{drop_more, length-append}
use Rattle.posting_sheets.proofs.Printable.{one_byte, one_is_ascii}
use Rattle.posting_sheets.proofs.quoting.push_text.Goals as goal

pub push-requires : goal.push-requires
push-requires g c =
    let text = c.args.text.now in
    let i = c.loop-byte.byte-index in
    let ascii : c.from.result < 128 =
    subst (λ n. n < 128) (sym c.from.ensures) (one_is_ascii text i c.loop-byte-test.true c.loop-byte.invariant.1) in
    let lens = ap length c.loop-byte.invariant.0 in
    let left = ap length (drop_more text i 0 c.loop-byte-test.true) in (
      search rules,
      omega (
        arith,
        one_byte c.from.result ascii,
        lens,
        left,
        c.requires.room,
        length-append c.loop-byte.line.bytes (drop i text),
        length-append c.args.line.now.bytes text,
      ),
    )
