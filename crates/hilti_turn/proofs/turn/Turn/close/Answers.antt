use Rattle.std.proofs.Common.{arith}
use Rattle.std.proofs.lemmas.Option.{slice_get_within}
use Rattle.hilti_turn.proofs.Ending.{ends}
use Rattle.hilti_turn.proofs.Closing.{all_told, closes}
use Rattle.hilti_turn.proofs.turn.Turn.close.Goals as goal

pub gather-last-requires-clause-some : goal.gather-last-requires-clause-some
gather-last-requires-clause-some g c =
    let here = c.requires.all 0 c.args.self.some_seat in
    let inside = slice_get_within c.args.passes.items here.0 here.1 here.2 in
    omega (arith, c.args.passes.ok.0)

pub unreachable-requires : goal.unreachable-requires
unreachable-requires g c =
    let told = all_told c.args.self c.args.passes.items c.gather-last.result c.requires.own c.gather-last.ensures.tells c.requires.all in
    let end = ends _ _ _ _ _ _ _ _ _ _ c.close_with-closed.ensures.values.2 c.take-slot.ensures.value c.gather-last.ensures.own.1.0 told in
    c.in_default.not-Some end.value end.there

pub returns-clause-begins : goal.returns-clause-begins
returns-clause-begins g c =
    let told = all_told c.args.self c.args.passes.items c.gather-last.result c.requires.own c.gather-last.ensures.tells c.requires.all in
    let end = ends _ _ _ _ _ _ _ _ _ _ c.close_with-closed.ensures.values.2 c.take-slot.ensures.value c.gather-last.ensures.own.1.0 told in
    (closes c.args.self c.args.passes.items c.gather-last.result _ _ _ _ _ _ end c.in-Some.is c.requires.own c.gather-last.ensures.tells c.requires.all).begins

pub returns-clause-own_entries : goal.returns-clause-own_entries
returns-clause-own_entries g c =
    let told = all_told c.args.self c.args.passes.items c.gather-last.result c.requires.own c.gather-last.ensures.tells c.requires.all in
    let end = ends _ _ _ _ _ _ _ _ _ _ c.close_with-closed.ensures.values.2 c.take-slot.ensures.value c.gather-last.ensures.own.1.0 told in
    (closes c.args.self c.args.passes.items c.gather-last.result _ _ _ _ _ _ end c.in-Some.is c.requires.own c.gather-last.ensures.tells c.requires.all).own_entries

pub returns-clause-no_others : goal.returns-clause-no_others
returns-clause-no_others g c =
    let told = all_told c.args.self c.args.passes.items c.gather-last.result c.requires.own c.gather-last.ensures.tells c.requires.all in
    let end = ends _ _ _ _ _ _ _ _ _ _ c.close_with-closed.ensures.values.2 c.take-slot.ensures.value c.gather-last.ensures.own.1.0 told in
    (closes c.args.self c.args.passes.items c.gather-last.result _ _ _ _ _ _ end c.in-Some.is c.requires.own c.gather-last.ensures.tells c.requires.all).no_others

pub returns-clause-about : goal.returns-clause-about
returns-clause-about g c =
    let told = all_told c.args.self c.args.passes.items c.gather-last.result c.requires.own c.gather-last.ensures.tells c.requires.all in
    let end = ends _ _ _ _ _ _ _ _ _ _ c.close_with-closed.ensures.values.2 c.take-slot.ensures.value c.gather-last.ensures.own.1.0 told in
    (closes c.args.self c.args.passes.items c.gather-last.result _ _ _ _ _ _ end c.in-Some.is c.requires.own c.gather-last.ensures.tells c.requires.all).about
