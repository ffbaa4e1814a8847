use Rattle.std.proofs.Common.{[], ◌∷◌, ◌++◌, ◌∙◌, refl, subst, sym}
use Rattle.std.proofs.lemmas.Bool.{false≢true}
use Rattle.hilti_words.specs.Reading.{AreFiles}
use Rattle.hilti_words.proofs.NextWord.{read_joined, read_name, read_value}
use Rattle.hilti_words.proofs.Refused.{joined_may_come, name_may_come, value_may_come}
use Rattle.hilti_words.proofs.reader.Reader.read.Goals as goal

pub returns-in_err-set-clause-usage : goal.returns-in_err-set-clause-usage
returns-in_err-set-clause-usage c =
    λ _ words more has are. c.in_err-set.ensures.refused (value_may_come words more c.args.self.now c.in-Some.setting c.args.word.now has are c.in-Some.is)

pub returns-in-Some-clause-ok : goal.returns-in-Some-clause-ok
returns-in-Some-clause-ok c =
    λ words has. read_value words c.args.self.now c.in-Some.setting c.args.word.now c.set.new.self has c.in-Some.is c.in_ok-set.ensures.could c.in_ok-set.ensures.set

pub returns-in_err-set-2-clause-usage : goal.returns-in_err-set-2-clause-usage
returns-in_err-set-2-clause-usage c =
    λ _ words more has are. c.in_err-set-2.ensures.refused (joined_may_come words more c.args.self.now c.in-Some-of_joined.setting
    c.in-Some-of_joined.value.now c.args.word.now has are c.in_default.is c.in-Some-of_joined.ensures.some)

pub returns-in-Some-of_joined-clause-ok : goal.returns-in-Some-of_joined-clause-ok
returns-in-Some-of_joined-clause-ok c =
    λ words has. read_joined words c.args.self.now c.in-Some-of_joined.setting c.in-Some-of_joined.value.now c.args.word.now
    c.set-in-Some-of_joined.new.self has c.in_default.is c.in-Some-of_joined.ensures.some c.in_ok-set-2.ensures.could c.in_ok-set-2.ensures.set

pub returns-then-not-is_name-clause-usage : goal.returns-then-not-is_name-clause-usage
returns-then-not-is_name-clause-usage c =
    λ _ words more has are. let is = name_may_come words more c.args.self.now c.args.word.now has are c.in_default.is
    (c.in_default-of_option.ensures.none refl) (c.in_default-of_joined.ensures.none refl) in
    false≢true (sym c.if-not-is_name.true ∙ c.is_name.ensures.1 is)

pub returns-clause-ok : goal.returns-clause-ok
returns-clause-ok c =
    λ words has. read_name words c.args.self.now c.add.new.self c.args.word.now has c.in_default.is (c.is_name.ensures.0 c.if-not-is_name.false)
    c.in_ok-add.ensures.same_awaited c.in_ok-add.ensures.same_options
    (λ positions are. subst (λ name. AreFiles (positions ++ name ∷ []) c.add.new.self.capture c.add.new.self.modules) c.in_ok-name.ensures
    (c.in_ok-add.ensures.added positions are))
