-- Its parts, one after another.
use Rattle.shared_log.specs.etcd.Texts.{compare_text}
use Rattle.shared_log.proofs.Parts.{five_parts}
use Rattle.shared_log.proofs.etcd.texts.add_compare.Goals as goal

pub returns : goal.returns
unfolding compare_text
returns c =
    five_parts _ _ _ _ _ _ _ _ _ _ _ c.in_ok-extend_from_slice.ensures.items c.in_ok-add_base64.ensures
    c.in_ok-extend_from_slice-2.ensures.items c.in_ok-add_base64-2.ensures c.in_ok-extend_from_slice-3.ensures.items
