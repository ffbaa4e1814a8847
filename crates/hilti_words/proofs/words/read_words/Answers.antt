use Rattle.std.proofs.Common.{◌≡◌, ◌-◌, ◌∷◌, ◌∙◌, ap, codes, drop, length, rules, subst, sym, take}
use Rattle.hilti_words.specs.Words.{IsAsked, asked_by}
use Rattle.hilti_words.proofs.Shapes.{behind_one}
use Rattle.hilti_words.proofs.words.read_words.Goals as goal

pub returns-in_ok-command-clause-command : goal.returns-in_ok-command-clause-command
returns-in_ok-command-clause-command c =
    let words = c.args.words.now in
    let split = behind_one words c.command-item.result c.in-len1-up.len_at_least c.command-item.is in
    let named : c.command-item.result ≡ codes "check" = search rules in
    subst (λ all. IsAsked all (asked_by c.in_ok-command.command))
    (sym (split ∙ ap (λ word. word ∷ take (length words - 1) (drop 1 words)) named)) c.in_ok-command.ensures.command

pub returns-in_ok-command-2-clause-command : goal.returns-in_ok-command-2-clause-command
returns-in_ok-command-2-clause-command c =
    let words = c.args.words.now in
    let split = behind_one words c.command-item.result c.in-len1-up.len_at_least c.command-item.is in
    let named : c.command-item.result ≡ codes "one" = search rules in
    subst (λ all. IsAsked all (asked_by c.in_ok-command-2.command))
    (sym (split ∙ ap (λ word. word ∷ take (length words - 1) (drop 1 words)) named)) c.in_ok-command-2.ensures.command
