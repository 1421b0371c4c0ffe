use Rattle.std.proofs.Common.{length, refl}
use Rattle.std.proofs.lemmas.Option.{slice_get_read}
use Rattle.counter_http.proofs.batch.refuse_at.Goals as goal

pub returns : goal.returns
returns g c = record {
  before = c.index_mut.result.now;
  after = c.refuse_record.new.self;
  at = slice_get_read c.args.here.now.items (length c.args.here.now.items) c.args.sender.place _ refl c.requires
      c.index_mut.ensures.value;
  is = refl;
  tells = c.refuse_record.ensures;
}
