-- The files so far are read, and none of their texts is too long.
use Rattle.std.proofs.Common.{◌≡◌, length, map, take, Some}
use Rattle.std.specs.List.{AllByRecursion}
use Rattle.hilti_outside.specs.Contents.{FileMap, Grows, content}
use Rattle.hilti_top.specs.ModuleTexts.{IsShort}
use Rattle.hilti_top.proofs.modules.read_texts.Given as goal

abbrev pub invariant-loop-name : goal.invariant-loop-name
invariant-loop-name g l = record {
  files : g.F.Files.files l.files ≡ g.F.Files.files l.fn.files;
  faults : g.F.Files.faults l.files ≡ g.F.Files.faults l.fn.files;
  opened : Grows (g.F.Files.opened l.fn.files) (g.F.Files.opened l.files) (take l.name-index l.names);
  count : length l.texts ≡ l.name-index;
  short : AllByRecursion IsShort l.texts;
  texts : (all : FileMap) → g.F.Files.files l.fn.files ≡ Some all → l.texts ≡ map (content all) (take l.name-index l.names);
}
