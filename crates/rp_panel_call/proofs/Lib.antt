mod FrontFacts
