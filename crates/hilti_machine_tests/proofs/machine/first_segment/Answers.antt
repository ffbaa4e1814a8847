use Rattle.std.proofs.Common.{◌≡◌, ℕ, ◌≤◌, List, [], sym, subst, lit<}
use Rattle.hilti_parts.specs.declared.parts.Parts.{Parts}
use Rattle.hilti_tree.specs.declared.tree.Tree.{Tree}
use Rattle.hilti_machine_tests.specs.Example.{example, CallsAreSound}
use Rattle.hilti_machine.specs.Sound.{IsSound}
use Rattle.hilti_machine.specs.Threads.{Facts}
use Rattle.hilti_machine_tests.proofs.machine.first_segment.Goals as goal

sound_of : (facts : Facts) (n : ℕ) (args : List Tree) → facts.parts ≡ example → args ≡ []
    → CallsAreSound → 1 ≤ n → n ≤ 2
    → IsSound facts (record { function = record { n = n }; args = args })
sound_of facts n args is none calls least most =
    subst (λ l. IsSound facts (record { function = record { n = n }; args = l })) (sym none)
    (subst
    (λ (p : Parts). IsSound (record { parts = p; fuel = facts.fuel })
    (record { function = record { n = n }; args = [] }))
    (sym is) (calls facts.fuel n least most))

pub start-requires-clause-sound : goal.start-requires-clause-sound
start-requires-clause-sound c =
    sound_of c.args.machine.now c.args.function _ c.requires.example c.new-args.ensures
    c.example_is_sound.ensures.calls c.requires.least c.requires.most

pub start-requires-clause-idle : goal.start-requires-clause-idle
start-requires-clause-idle c = (3, [], c.in_ok-vt.ensures, lit< tt)

pub segment-requires : goal.segment-requires
segment-requires c = (3, [], _, c.in_ok-start.ensures 3 [] c.in_ok-vt.ensures)
