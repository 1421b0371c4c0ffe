-- By the log that was reached, or by none.
use Rattle.std.proofs.Common.{inl, inr, refl, subst, sym}
use Rattle.std.proofs.KnownBytes.{Keeps-refl}
use Rattle.shared_log.specs.Replicated.{counter_of}
use Rattle.command_line.proofs.sharing.listen_shared.Goals as goal

pub returns-in_default : goal.returns-in_default
returns-in_default g c = record {
  serves = inl (refl, Keeps-refl (g.W.Sink.contents c.args.output.now), refl, refl);
  unprinted = λ is. cc is;
  spares = g.met.C.Counter.spares_itself c.args.bank;
}

pub returns : goal.returns
returns g c =
    let made = c.new-machine.ensures in
    let parts = c.into_parts-bank.ensures in
    let it = c.listen_joined-end.ensures in
    record {
      serves = inr (
        c.new-machine.result,
        c.listen_joined-end.new.machine,
        made.counter,
        subst (g.N.Network.is_shared c.args.network.now c.args.sharing.now.member.now c.args.sharing.now.name.now) (sym made.log)
            c.in-Some.ensures.shared,
        sym parts.0,
        it.serves,
      );
      unprinted = it.unprinted;
      spares = subst (g.C.Counter.spares c.args.bank) (sym parts.0)
          (subst (λ (old : g.row.C.Denot). g.C.Counter.spares old (counter_of c.listen_joined-end.new.machine)) made.counter
          it.spares);
    }
