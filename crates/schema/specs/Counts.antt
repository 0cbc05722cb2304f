-- How many rows the tables of a schema have at most.
use Rattle.std.specs.Prelude.{◌≤◌, vec_len}
use Rattle.schema.specs.declared.definition.Schema.{Schema}

abbrev pub Few : Schema → Type 0
Few s = (vec_len s.types ≤ 256) × (vec_len s.values ≤ 1024) × (vec_len s.fields ≤ 1024) × (vec_len s.directives ≤ 64) × (vec_len s.arguments ≤ 256)
