-- The JSON tokens of data.
use Rattle.std.specs.Prelude.{List}
use Rattle.json.specs.Token.{Token}
use Rattle.json.specs.Tree.{json_tokens}
use Rattle.serde_json.specs.Data.{Data}
use Rattle.serde_json.specs.Written.{outline}

-- the tokens that spell data
abbrev pub data_tokens : Data → List Token
data_tokens d = json_tokens (outline d)
