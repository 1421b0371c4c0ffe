use Rattle.std.proofs.Common.{◌∙◌, [], ◌∷◌, length, ap, length-append}
use Rattle.posting_batch.proofs.overlay.put_row.Goals as goal

pub returns : goal.returns
returns g c = record {
  items = c.push_reserved.ensures.items;
  len = ap length c.push_reserved.ensures.items ∙ length-append c.args.rows.now.items (c.args.row ∷ []);
  capacity = c.push_reserved.ensures.capacity;
}
