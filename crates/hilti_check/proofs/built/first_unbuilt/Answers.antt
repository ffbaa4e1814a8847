use Rattle.std.proofs.Common.{◌≡◌, sym, ◌∙◌, ap, get_or, rules}
use Rattle.hilti_link.specs.declared.tables.Tables.{Tables}
use Rattle.hilti_link.specs.Linking.{tables_of}
use Rattle.hilti_check.specs.Built.{unbuilt_place, all_placed, first_unbuilt}
use Rattle.hilti_check.proofs.Scanning.{function_found, function_passed, functions_end}
use Rattle.hilti_check.proofs.built.first_unbuilt.Goals as goal

pub loop-at-init : goal.loop-at-init
loop-at-init c =
    ap (λ fs. unbuilt_place (all_placed c.args.linked.now.modules fs c.args.blocks.now))
    (c.as_slice-functions.ensures ∙ ap (λ (t : Tables). t.functions) c.tables.ensures)

pub returns-then-is_some : goal.returns-then-is_some
returns-then-is_some c =
    let item : c.index-functions-at.result ≡ get_or c.as_slice-functions.result.now c.loop-at.at c.index-functions-at.result = search rules in
    function_found c.args.linked.now.modules c.as_slice-functions.result.now c.args.blocks.now (first_unbuilt c.args.linked.now.modules (tables_of c.args.linked.now.modules) c.args.blocks.now)
    c.loop-at.at c.index-functions-at.result c.blocks_at-own.result.now _ c.loop-at-test.true item c.blocks_at-own.ensures c.in_ok-first.ensures (sym c.is_some.ensures ∙ c.if-is_some.true) c.loop-at.invariant

pub loop-at-preserved : goal.loop-at-preserved
loop-at-preserved c =
    let item : c.index-functions-at.result ≡ get_or c.as_slice-functions.result.now c.loop-at.at c.index-functions-at.result = search rules in
    function_passed c.args.linked.now.modules c.as_slice-functions.result.now c.args.blocks.now (first_unbuilt c.args.linked.now.modules (tables_of c.args.linked.now.modules) c.args.blocks.now)
    c.loop-at.at c.index-functions-at.result c.blocks_at-own.result.now _ c.loop-at-test.true item c.blocks_at-own.ensures c.in_ok-first.ensures (sym c.is_some.ensures ∙ c.if-is_some.false) c.loop-at.invariant

pub returns : goal.returns
returns c =
    functions_end c.args.linked.now.modules c.as_slice-functions.result.now c.args.blocks.now (first_unbuilt c.args.linked.now.modules (tables_of c.args.linked.now.modules) c.args.blocks.now)
    c.loop-at.at c.loop-at-test.false c.loop-at.invariant
