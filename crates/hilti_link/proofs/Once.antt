-- What is known of modules that are linked or refused.
use Rattle.std.proofs.Common.{◌≡◌, sym, ◌∙◌, ap, Some, None}
use Rattle.hilti_link.specs.Laws.{NeverBoth, OneMeaning, OneRefusal}
use Rattle.hilti_link.specs.Linking.{tables_of}
use Rattle.hilti_link.specs.Refusals.{first_refusal}
use Rattle.hilti_base.specs.declared.refusal.Refusal.{Refusal}
use Rattle.hilti_base.specs.declared.refusal.Refusal.TheVariants.{At}

pub never_both : NeverBoth
never_both linked refusal is =
    let both : Some refusal ≡ None = sym is ∙ linked.accepted in
    cc

pub one_refusal : OneRefusal
one_refusal modules a b code other first again =
    let same : Some (At a code) ≡ Some (At b other) = sym first ∙ again in
    (cc, cc)

pub one_meaning : OneMeaning
one_meaning a b same = a.tabled ∙ ap tables_of same ∙ sym b.tabled
