-- The datatypes that have a meaning of their own, by their IRIs (XML Schema part 2, section 3; RDF 1.1 Concepts, section 5).
use Rattle.std.specs.Prelude.{ℕ, List, codes}

-- the namespace of the types of XML Schema
abbrev pub xsd : List ℕ
xsd = codes "http://www.w3.org/2001/XMLSchema#"

-- xsd:string: the datatype of a literal that is written with neither a datatype nor a tag
abbrev pub xsd_string : List ℕ
xsd_string = codes "http://www.w3.org/2001/XMLSchema#string"

-- xsd:integer: the datatype of the integers that expressions make
abbrev pub xsd_integer : List ℕ
xsd_integer = codes "http://www.w3.org/2001/XMLSchema#integer"

-- xsd:boolean: the datatype of truth values
abbrev pub xsd_boolean : List ℕ
xsd_boolean = codes "http://www.w3.org/2001/XMLSchema#boolean"

-- rdf:langString: the datatype of a literal with a tag
abbrev pub lang_string : List ℕ
lang_string = codes "http://www.w3.org/1999/02/22-rdf-syntax-ns#langString"
