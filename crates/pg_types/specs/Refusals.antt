-- The numbers and names of the refusals, as they are printed.
use Rattle.std.specs.Prelude.{ℕ, List, codes}
use Rattle.pg_types.specs.declared.refusals.Kind.{Kind}
use Rattle.pg_types.specs.declared.refusals.Kind.TheVariants.{TranslateTooLong, BadMinima, BadMark, BadSpelling, SpellingClash, TooManyLetters, BadNumber, OutOfRange, Missing, Extra, ParametersTooLong, PatternCharacter, PatternTooLong, PatternsTooLong, DictionaryCharacter, WordTooLong, DictionaryTooLong, BadWeight, TableTooLong, BadTable, OtherTable}

-- the number and the name of a refusal; the hundreds of the number tell the file
abbrev pub number_and_name : Kind → ℕ × List ℕ
number_and_name TranslateTooLong = (101, codes "TranslateTooLong")
number_and_name BadMinima = (102, codes "BadMinima")
number_and_name BadMark = (103, codes "BadMark")
number_and_name BadSpelling = (104, codes "BadSpelling")
number_and_name SpellingClash = (105, codes "SpellingClash")
number_and_name TooManyLetters = (106, codes "TooManyLetters")
number_and_name BadNumber = (201, codes "BadNumber")
number_and_name OutOfRange = (202, codes "OutOfRange")
number_and_name Missing = (203, codes "Missing")
number_and_name Extra = (204, codes "Extra")
number_and_name ParametersTooLong = (205, codes "ParametersTooLong")
number_and_name PatternCharacter = (301, codes "PatternCharacter")
number_and_name PatternTooLong = (302, codes "PatternTooLong")
number_and_name PatternsTooLong = (303, codes "PatternsTooLong")
number_and_name DictionaryCharacter = (401, codes "DictionaryCharacter")
number_and_name WordTooLong = (402, codes "WordTooLong")
number_and_name DictionaryTooLong = (403, codes "DictionaryTooLong")
number_and_name BadWeight = (404, codes "BadWeight")
number_and_name TableTooLong = (601, codes "TableTooLong")
number_and_name BadTable = (602, codes "BadTable")
number_and_name OtherTable = (603, codes "OtherTable")
