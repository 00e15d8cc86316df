mod ScriptLemmas
