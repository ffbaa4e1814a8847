use Rattle.std.proofs.Common.{◌≡◌, ◌∙◌, ◌++◌, refl, ap, sym, subst, length, cond, bytes_eq, Some, None}
use Rattle.std.specs.Option.{option_or}
use Rattle.hilti_scope.specs.FirstPlaces.{place_of}
use Rattle.hilti_scope.specs.Items.{placed, placed_in}
use Rattle.hilti_scope.specs.Gathered.{AreNames, IsBehind}
use Rattle.hilti_scope.proofs.Modules.{IsGathered-push, none_yet}
use Rattle.hilti_scope.proofs.declarations.Gathering.add_module.Goals as goal

pub returns : goal.returns
returns c = λ before gathered.
    let file = c.len-file.result in
    let kept = c.in_ok-add_items.ensures.kept in
    let is : file ≡ length before = c.len-file.ensures ∙ ap length kept.declared ∙ gathered.modules_counted in
    let none = subst (AreNames file (placed before)) (sym c.new-names.ensures) (none_yet before file gathered is) in
    IsGathered-push c.args.self.now c.add_items.new.self _ before c.args.next.now file c.add_items.new.names gathered is
    (subst (λ items. IsBehind (placed before ++ placed_in file items) c.add_items.new.self) c.as_slice.ensures (c.in_ok-add_items.ensures.behind (placed before) file gathered.is_behind))
    (subst (λ items. AreNames file (placed before ++ placed_in file items) c.add_items.new.names) c.as_slice.ensures (c.in_ok-add_items.ensures.names (placed before) file gathered.is_behind none))
    kept
    (λ bytes. c.in_ok-note.ensures.noted bytes ∙ ap (λ word. option_or (place_of c.add_items.new.self.declarations.modules bytes) (cond (bytes_eq word bytes) (Some file) None)) c.bytes.ensures)
    c.in_ok-push.ensures.ok refl refl
