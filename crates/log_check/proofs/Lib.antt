mod LogEndLemmas
