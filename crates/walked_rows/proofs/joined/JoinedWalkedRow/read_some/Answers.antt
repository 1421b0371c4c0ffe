-- There is room for both tables, the room is filled with them, and no row is left out.
use Rattle.std.proofs.Common.{◌≡◌, ◌∙◌, true, None, filter, sym, rules, w64}
use Rattle.std.proofs.lemmas.Int.{to_z-of_z}
use Rattle.walked_rows.specs.Pairs.{Pair, holds_pairs}
use Rattle.walked_rows.proofs.Sought.{all_given, all_pass}
use Rattle.walked_rows.proofs.joined.JoinedWalkedRow.read_some.Goals as goal

pub new-own-requires : goal.new-own-requires
new-own-requires g c = g.met.R.Paired.has_room

pub new-beside-requires : goal.new-beside-requires
new-beside-requires g c = g.met.O.Paired.has_room

pub fill_joined-requires : goal.fill_joined-requires
fill_joined-requires g c = (g.met.R.Paired.has_room, (g.met.O.Paired.has_room, search rules))

pub returns : goal.returns
returns g c =
    let same = to_z-of_z w64 c.args.from c.ranges.from in
    let filled = c.fill_joined.ensures in
    record {
      answers = λ clean all has.
          let whole : filter (λ (p : Pair). g.R.StoredRow.kind.is_given None p.entry) all
          ≡ filter (λ (p : Pair). true) all =
          all_pass _ (λ p. g.R.StoredRow.kind.all_given p.entry) all ∙ sym (all_given all) in
          rw (same, whole) at (filled.answers clean all (holds_pairs has));
      ended = filled.ended;
      rises = rw same at filled.rises;
      reads = filled.reads;
    }
