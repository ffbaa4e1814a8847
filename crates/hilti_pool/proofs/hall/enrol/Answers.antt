use Rattle.std.proofs.Common.{nat_cmp, subst}
use Rattle.std.specs.List.Sorted.{IsBinarySearchResult}
use Rattle.hilti_pool.proofs.Roll.{enrols, place_found}
use Rattle.hilti_pool.proofs.hall.enrol.Goals as goal

pub returns : goal.returns
returns c =
    let roll = c.args.roll.now.items in
    let n = c.args.thread.n in
    let position = subst (λ l. IsBinarySearchResult (λ y. nat_cmp y n) l c.binary_search.result) c.deref.ensures.value c.binary_search.ensures.position in
    let at = place_found roll n c.in-Err.place c.binary_search.result c.in-Err.is position c.requires.rising in
    enrols n c.in-Err.place roll c.insert.new.self.items c.requires.rising at.0 at.1 at.2 c.in-Ok.ensures.items
