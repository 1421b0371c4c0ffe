-- What a crash leaves of a life.
use Rattle.std.proofs.Math.Logic.{∥∥₁_map}
use Rattle.posting_rules.specs.{believed.Counter.ShowsPrefix, believed.Tables.Tables}
use Rattle.bank_lives.proofs.Lived.{life_leaves, life_given}
use Rattle.bank_lives.proofs.laws.life_law.Goals as goal

pub returns : goal.returns
returns g c = record {
  given = λ first given least life. life_given g.C.Counter.seen first c.args.counter.now given least life;
  survives = λ first log given least life stood honest.
      life_leaves g.C.Counter.seen first c.args.counter.now given least life honest log stood;
  something = λ first log given least life stood honest.
      ∥∥₁_map (g.met.C.Counter.leaves_something c.args.counter.now honest) (λ left.
      let it = life_leaves g.C.Counter.seen first c.args.counter.now given least life honest log stood left.0
      left.1 in
      let shown : (t : Tables) × ShowsPrefix log given least t = (it.0, it.2) in
      shown);
}
