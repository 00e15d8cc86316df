pub mod ParsingLaws
