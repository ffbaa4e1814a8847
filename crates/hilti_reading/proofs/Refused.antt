-- A text that is refused is refused once, and is no module.
use Rattle.std.proofs.Common.{sym, ◌∙◌, ap, subst, inl, inr}
use Rattle.hilti_lexer.proofs.Unique.{one_reading, read_or_refused, one_refusal as one_fault}
use Rattle.hilti_pieces.specs.Ends.{end_of}
use Rattle.hilti_syntax.specs.Items.{module_tree}
use Rattle.hilti_refusals.specs.Refusals.{DerivesModule, FirstRefused}
use Rattle.hilti_syntax.specs.Texts.{code_of_stop}
use Rattle.hilti_refusals.proofs.Once.{never_both as never_both_tokens, refused_once}
use Rattle.hilti_reading.specs.Refusals.{NeverBoth, OneRefusal}

pub never_both : NeverBoth
never_both file text m code place is (inl refuses) = read_or_refused file text is.tokens code place is.lexed refuses
never_both file text m code place is (inr refused) =
    never_both_tokens refused.tokens (end_of file text) (module_tree m) refused.stop place
    (subst (λ tokens. DerivesModule tokens (end_of file text) (module_tree m)) (one_reading file text is.tokens refused.tokens is.lexed refused.lexed) is.are.0) refused.refused

pub one_refusal : OneRefusal
one_refusal file text code other place elsewhere (inl refuses) (inl again) = one_fault file text code other place elsewhere refuses again
one_refusal file text code other place elsewhere (inl refuses) (inr refused) = absurd (read_or_refused file text refused.tokens code place refused.lexed refuses)
one_refusal file text code other place elsewhere (inr refused) (inl refuses) = absurd (read_or_refused file text refused.tokens other elsewhere refused.lexed refuses)
one_refusal file text code other place elsewhere (inr refused) (inr again) =
    let same = refused_once again.tokens (end_of file text) refused.stop again.stop place elsewhere
    (subst (λ tokens. FirstRefused tokens (end_of file text) refused.stop place) (one_reading file text refused.tokens again.tokens refused.lexed again.lexed) refused.refused)
    again.refused in
    (refused.code_is ∙ (ap code_of_stop same.0 ∙ sym again.code_is), same.1)
