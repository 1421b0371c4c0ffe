use Rattle.matchit.proofs.OnLiterals.{matchit_on_literals}
use Rattle.counter_http.specs.Rows.{all_routes}
use Rattle.counter_http.proofs.routes.insert_all.Goals as goal

-- each went in after those before it
pub returns : goal.returns
unfolding matchit_on_literals all_routes
returns c all =
    let j = c.insert.ensures all in
    let i = c.insert-going-7.ensures j.0 in
    let h = c.insert-going-6.ensures i.0 in
    let f = c.insert-going-5.ensures h.0 in
    let e = c.insert-going-4.ensures f.0 in
    let d = c.insert-going-3.ensures e.0 in
    let b = c.insert-going-2.ensures d.0 in
    let a = c.insert-going.ensures b.0 in
    rw (i.1.1, h.1.1, f.1.1, e.1.1, d.1.1, b.1.1, a.1.1, c.requires) at j.1.1
