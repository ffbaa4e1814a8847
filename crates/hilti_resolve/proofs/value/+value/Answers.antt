use Rattle.std.proofs.Common.{◌≡◌, ◌∙◌, ap, sym, Ok, Err, ◌++◌, ◌∷◌, [], drop, length, map, nat_le, ◌&&◌, true, false, cond, ◌+◌, rules, arith}
use Rattle.hilti_types.specs.Keys.{key_over}
use Rattle.std.proofs.lemmas.List.{length-map}
use Rattle.hilti_scope.specs.Scopes.{means}
use Rattle.hilti_resolve.specs.Values.{all_of, read_of, inner_read_of, parametric_read_of, container_read_of, takes, tuple_of}
use Rattle.hilti_resolve.proofs.Together.{ahead, all_told, together_more, together_fails, together_at_end}
use Rattle.hilti_resolve.proofs.FormsRead.{double_reads_as, fails_too, first_fails, iterator_reads_as, no_key, not_taken, not_walked, tuple_reads_as, walked, with_key}
use Rattle.hilti_resolve.proofs.value.+value.Goals as goal

pub part_values-returns-in_err-value-clause-broken : goal.part_values-returns-in_err-value-clause-broken
part_values-returns-in_err-value-clause-broken t c = λ place is.
    let told = read_of c.args.table.now (means c.args.scope.now) in
    let fails : (told c.part-item.result).stands ≡ Err place = c.value_of.ensures.broken place (search rules) in
    together_fails told (all_told told c.args.parts.now) c.loop-part.values c.as_slice-part-items.result.now c.loop-part.part-index c.part-item.result place c.loop-part-test.true c.part-item.is c.loop-part.invariant fails

pub part_values-loop-part-preserved : goal.part_values-loop-part-preserved
part_values-loop-part-preserved t c =
    let told = read_of c.args.table.now (means c.args.scope.now) in
    let items = c.as_slice-part-items.result.now in
    let grown : c.push.new.self ≡ c.loop-part.values ++ c.in_ok-value.value ∷ [] = c.in_ok-push.ensures.ok in
    ap (λ values. ahead values (all_told told (drop (c.loop-part.part-index + 1) items))) grown
    ∙ together_more told (all_told told c.args.parts.now) c.loop-part.values items c.loop-part.part-index c.part-item.result c.in_ok-value.value c.loop-part-test.true c.part-item.is c.loop-part.invariant c.in_ok-value.ensures.kind

pub part_values-returns-clause-kinds : goal.part_values-returns-clause-kinds
part_values-returns-clause-kinds t c =
    let told = read_of c.args.table.now (means c.args.scope.now) in
    together_at_end told (all_told told c.args.parts.now) c.loop-part.values c.as_slice-part-items.result.now c.loop-part.part-index (omega arith) c.loop-part.invariant

pub container_value-returns-then-not-takes-clause-broken : goal.container_value-returns-then-not-takes-clause-broken
container_value-returns-then-not-takes-clause-broken t c = λ place is.
    let table = c.args.table.now in
    let mean = means c.args.scope.now in
    let at = c.in-Double.place in
    let double = c.in-Double.double in
    let first = c.in-Double.first in
    let same : at ≡ place = cc in
    let told = c.takes.ensures table mean in
    let fails : takes double (read_of table mean first).form ≡ false = search rules in
    ap (λ read. read.stands) (ap (container_read_of table mean) c.in-Double.is ∙ double_reads_as table mean at double first c.in-Double.second)
    ∙ not_taken table at double (read_of table mean first) (read_of table mean c.in-Double.second).stands fails
    ∙ ap Err same

pub container_value-returns-in_err-first_kind-in-Double-clause-broken : goal.container_value-returns-in_err-first_kind-in-Double-clause-broken
container_value-returns-in_err-first_kind-in-Double-clause-broken t c = λ place is.
    let table = c.args.table.now in
    let mean = means c.args.scope.now in
    let at = c.in-Double.place in
    let double = c.in-Double.double in
    let first = c.in-Double.first in
    let told = c.takes.ensures table mean in
    let passes : takes double (read_of table mean first).form ≡ true = search rules in
    let broken = c.value_of-in-Double.ensures.broken place (search rules) in
    let fault : (read_of table mean first).stands ≡ Err place = search rules in
    ap (λ read. read.stands) (ap (container_read_of table mean) c.in-Double.is ∙ double_reads_as table mean at double first c.in-Double.second)
    ∙ first_fails table at double (read_of table mean first) (read_of table mean c.in-Double.second).stands place passes fault

pub container_value-returns-then-not-is_key-clause-broken : goal.container_value-returns-then-not-is_key-clause-broken
container_value-returns-then-not-is_key-clause-broken t c = λ place is.
    let table = c.args.table.now in
    let mean = means c.args.scope.now in
    let at = c.in-Double.place in
    let double = c.in-Double.double in
    let first = c.in-Double.first in
    let same : at ≡ place = cc in
    let told = c.takes.ensures table mean in
    let passes : takes double (read_of table mean first).form ≡ true = search rules in
    let kind : (read_of table mean first).stands ≡ Ok c.in_ok-first_kind-in-Double.first_kind = search rules in
    let fails : key_over table c.in_ok-first_kind-in-Double.first_kind ≡ false = fails_too _ _ c.is_key.ensures c.if-not-is_key.true in
    ap (λ read. read.stands) (ap (container_read_of table mean) c.in-Double.is ∙ double_reads_as table mean at double first c.in-Double.second)
    ∙ no_key table at double (read_of table mean first) (read_of table mean c.in-Double.second).stands c.in_ok-first_kind-in-Double.first_kind passes kind fails
    ∙ ap Err same

pub container_value-returns-in_err-second_kind-in-Double-clause-broken : goal.container_value-returns-in_err-second_kind-in-Double-clause-broken
container_value-returns-in_err-second_kind-in-Double-clause-broken t c = λ place is.
    let table = c.args.table.now in
    let mean = means c.args.scope.now in
    let at = c.in-Double.place in
    let double = c.in-Double.double in
    let first = c.in-Double.first in
    let second = c.in-Double.second in
    let told = c.takes.ensures table mean in
    let passes : takes double (read_of table mean first).form ≡ true = search rules in
    let kind : (read_of table mean first).stands ≡ Ok c.in_ok-first_kind-in-Double.first_kind = search rules in
    let key : key_over table c.in_ok-first_kind-in-Double.first_kind ≡ true = c.is_key.ensures.0 c.if-not-is_key.false in
    let broken = c.value_of-in-Double-2.ensures.broken place (search rules) in
    let fault : (read_of table mean second).stands ≡ Err place = search rules in
    ap (λ read. read.stands) (ap (container_read_of table mean) c.in-Double.is ∙ double_reads_as table mean at double first second)
    ∙ with_key table at double (read_of table mean first) (read_of table mean second).stands c.in_ok-first_kind-in-Double.first_kind (Err place) passes kind key fault

pub container_value-returns-in_ok-object_of-in-Double-clause-object : goal.container_value-returns-in_ok-object_of-in-Double-clause-object
container_value-returns-in_ok-object_of-in-Double-clause-object t c =
    let table = c.args.table.now in
    let mean = means c.args.scope.now in
    let at = c.in-Double.place in
    let double = c.in-Double.double in
    let first = c.in-Double.first in
    let second = c.in-Double.second in
    let told = c.takes.ensures table mean in
    let passes : takes double (read_of table mean first).form ≡ true = search rules in
    let kind : (read_of table mean first).stands ≡ Ok c.in_ok-first_kind-in-Double.first_kind = search rules in
    let key : key_over table c.in_ok-first_kind-in-Double.first_kind ≡ true = c.is_key.ensures.0 c.if-not-is_key.false in
    let other : (read_of table mean second).stands ≡ Ok c.in_ok-second_kind-in-Double.second_kind = search rules in
    ap (λ read. read.stands) (ap (container_read_of table mean) c.in-Double.is ∙ double_reads_as table mean at double first second)
    ∙ with_key table at double (read_of table mean first) (read_of table mean second).stands c.in_ok-first_kind-in-Double.first_kind (Ok c.in_ok-second_kind-in-Double.second_kind) passes kind key other
    ∙ search rules

pub parametric_value-returns-then-not-is_walked-clause-broken : goal.parametric_value-returns-then-not-is_walked-clause-broken
parametric_value-returns-then-not-is_walked-clause-broken t c = λ place is.
    let table = c.args.table.now in
    let mean = means c.args.scope.now in
    let at = c.in-Iterator.place in
    let over = c.in-Iterator.over in
    let same : at ≡ place = cc in
    let told = c.is_walked.ensures table mean in
    let fails : (inner_read_of table mean over).form ≡ false = search rules in
    ap (λ read. read.stands) (ap (parametric_read_of table mean) c.in-Iterator.is ∙ iterator_reads_as table mean at over)
    ∙ not_walked at (inner_read_of table mean over) fails
    ∙ ap Err same

pub parametric_value-returns-in_err-container-in-Iterator-clause-broken : goal.parametric_value-returns-in_err-container-in-Iterator-clause-broken
parametric_value-returns-in_err-container-in-Iterator-clause-broken t c = λ place is.
    let table = c.args.table.now in
    let mean = means c.args.scope.now in
    let at = c.in-Iterator.place in
    let over = c.in-Iterator.over in
    let told = c.is_walked.ensures table mean in
    let passes : (inner_read_of table mean over).form ≡ true = search rules in
    let fault : (inner_read_of table mean over).stands ≡ Err place = c.inner_value.ensures.broken place (search rules) in
    ap (λ read. read.stands) (ap (parametric_read_of table mean) c.in-Iterator.is ∙ iterator_reads_as table mean at over)
    ∙ walked at (inner_read_of table mean over) (Err place) passes fault

pub parametric_value-returns-in_ok-iterator_value-in-Iterator-clause-kind : goal.parametric_value-returns-in_ok-iterator_value-in-Iterator-clause-kind
parametric_value-returns-in_ok-iterator_value-in-Iterator-clause-kind t c =
    let table = c.args.table.now in
    let mean = means c.args.scope.now in
    let at = c.in-Iterator.place in
    let over = c.in-Iterator.over in
    let told = c.is_walked.ensures table mean in
    let passes : (inner_read_of table mean over).form ≡ true = search rules in
    let object : (inner_read_of table mean over).stands ≡ Ok c.in_ok-container-in-Iterator.container = c.in_ok-container-in-Iterator.ensures.object in
    ap (λ read. read.stands) (ap (parametric_read_of table mean) c.in-Iterator.is ∙ iterator_reads_as table mean at over)
    ∙ walked at (inner_read_of table mean over) (Ok c.in_ok-container-in-Iterator.container) passes object
    ∙ search rules

pub parametric_value-returns-in_ok-parts-in-Tuple-clause-kind : goal.parametric_value-returns-in_ok-parts-in-Tuple-clause-kind
parametric_value-returns-in_ok-parts-in-Tuple-clause-kind t c =
    let table = c.args.table.now in
    let mean = means c.args.scope.now in
    let at = c.in-Tuple.place in
    let parts = map (read_of table mean) c.in-Tuple.parts in
    let fits : (nat_le 1 (length parts) && nat_le (length parts) 8) ≡ true =
    ap (λ n. nat_le 1 n && nat_le n 8) (length-map c.in-Tuple.parts (read_of table mean) ∙ sym c.len.ensures)
    ∙ sym c.is_tuple_length.ensures ∙ c.if-not-is_tuple_length.false in
    ap (λ read. read.stands) (ap (parametric_read_of table mean) c.in-Tuple.is ∙ tuple_reads_as table mean at c.in-Tuple.parts)
    ∙ ap (λ fits. cond fits (tuple_of (all_of parts)) (Err at)) fits
    ∙ ap tuple_of c.in_ok-parts-in-Tuple.ensures.kinds
