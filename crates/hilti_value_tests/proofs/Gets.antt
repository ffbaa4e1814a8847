-- What a map holds after each call, for a test that makes several.
use Rattle.std.specs.FinMap.{gets}

pub ruleset map_gets = (gets)
