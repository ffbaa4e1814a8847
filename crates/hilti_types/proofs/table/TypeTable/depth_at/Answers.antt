use Rattle.std.proofs.Common.{◌≤◌, length, arith}
use Rattle.std.proofs.lemmas.Grind.{common_steps}
use Rattle.hilti_types.proofs.Keeping.{depth_found, depth_past}
use Rattle.hilti_types.proofs.table.TypeTable.depth_at.Goals as goal

pub returns-in-Some : goal.returns-in-Some
returns-in-Some c =
    let inside = c.self.inside in
    let read = c.in-Some.ensures.lookup.3 in
    depth_found inside.types inside.told.items c.self.invariant c.args.at c.args.self.now
    c.deref.result.now c.in-Some.told.now c.self.view_is c.deref.ensures.value read.0 read.1

pub returns-in-None : goal.returns-in-None
returns-in-None c =
    let inside = c.self.inside in
    let past : length c.deref.result.now ≤ c.args.at =
    grind (arith, common_steps, c.get.ensures, c.in-None.is) in
    depth_past inside.types inside.told.items c.self.invariant c.args.at c.args.self.now
    c.deref.result.now c.self.view_is c.deref.ensures.value past
